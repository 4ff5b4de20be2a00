use mathlib.Core.Path.{◌≡◌, refl, sym, ◌∙◌}
use mathlib.Core.List.{List}
use Prim.Native.Nat.{ℕ, zero, suc, ◌^◌, ◌<◌}
use lib.ListN.{take}
use Rattle.model.specs.Lists.{sum}
use Rattle.trace.specs.Leads.{begins_at}
use Rattle.trace.proofs.Generation.begins_at.Goals as goal

young-begins : (own : ℕ) (ls : List ℕ) (b : ℕ) → own ≡ 0 → b ≡ begins_at own ls b
unfolding begins_at
young-begins own ls b e = rw e

module _ (own : ℕ) (ls : List ℕ) (b : ℕ) (h : own ≡ 0 → ⊥) where
  old-begins : begins_at own ls b ≡ sum (take b ls)
  unfolding begins_at
  old-begins = go own h
    where
      go : (k : ℕ) → (k ≡ 0 → ⊥) → begins_at k ls b ≡ sum (take b ls)
      go zero n = absurd (n refl)
      go (suc k) n = refl

  old-fits : begins_at own ls b < 2 ^ 64 → sum (take b ls) < 2 ^ 64
  old-fits l = rw old-begins at l

  old-is : {s : ℕ} → s ≡ sum (take b ls) → s ≡ begins_at own ls b
  old-is e = e ∙ sym old-begins

pub returns-then-self-eq0 : goal.returns-then-self-eq0
returns-then-self-eq0 c = search young-begins

pub sum-requires : goal.sum-requires
sum-requires c = search old-fits

pub returns : goal.returns
returns c = search old-is
