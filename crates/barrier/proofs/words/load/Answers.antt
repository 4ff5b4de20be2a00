use mathlib.Core.Path.{◌≡◌, refl, ap, ◌∙◌}
use mathlib.Core.Bool.{true, false≢true}
use mathlib.Core.List.{List}
use Prim.Native.Nat.{ℕ, zero, suc}
use Rattle.model.specs.Lists.{all_at_most}
use Rattle.model.specs.Barrier.{present, most}
use Rattle.model.specs.Image.{barrier, flagged}
use Rattle.barrier.proofs.words.load.Goals as goal

-- a flag that is not 0
module _ (cs : List ℕ) where
  bounded : (f : ℕ) → (f ≡ 0 → ⊥) → flagged f cs ≡ true → all_at_most most cs ≡ true
  unfolding flagged
  bounded zero h e = absurd (h refl)
  bounded (suc zero) h e = e
  bounded (suc (suc f)) h e = absurd (false≢true e)

  on : (f : ℕ) → (f ≡ 0 → ⊥) → present cs ≡ barrier f cs
  unfolding barrier
  on zero h = absurd (h refl)
  on (suc f) h = refl

pub narrow-requires : goal.narrow-requires
narrow-requires c =
    let s = c.before.before in
    (s.requires.1, bounded s.args.words.now s.args.flag c.if-flag-ne0.true s.requires.0)

pub returns-then-flag-ne0 : goal.returns-then-flag-ne0
returns-then-flag-ne0 c =
    let a = c.args in
    ap present c.narrow.ensures ∙ on a.words.now a.flag c.if-flag-ne0.true

pub returns-else-flag-ne0 : goal.returns-else-flag-ne0
unfolding barrier
returns-else-flag-ne0 c = rw c.if-flag-ne0.false c.new-b.ensures
