-- An answer, or the number of the first question that got a no.
use Rattle.std.specs.Prelude.{Bool, true, false, List, [], ◌∷◌, ℕ}

pub data Res (A : Type 0) : Type 0 where
  ok : A → Res A
  refuse : ℕ → Res A

infixl 10 ◌>>=◌
abbrev pub ◌>>=◌ : {A B : Type 0} → Res A → (A → Res B) → Res B
ok a >>= f = f a
refuse q >>= f = refuse q

-- question q: is it so?
abbrev pub ask : ℕ → Bool → Res (Unit {0})
ask q true = ok tt
ask q false = refuse q

-- one step for each element, in order
abbrev pub each : {A B : Type 0} → (A → B → Res B) → List A → B → Res B
each f [] b = ok b
each f (a ∷ rest) b = f a b >>= each f rest
