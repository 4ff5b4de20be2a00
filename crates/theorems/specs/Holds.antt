-- If there is an answer, it is such.
use Rattle.std.specs.Prelude.{ℕ}
use Rattle.model.specs.Res.{Res, ok, refuse}

pub data Holds {A : Type 0} (P : A → Type 0) : Res A → Type 0 where
  such : {a : A} → P a → Holds P (ok a)
  none : {q : ℕ} → Holds P (refuse q)
