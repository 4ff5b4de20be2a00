-- The sum of the first words.
use mathlib.Core.Path.{◌≡◌, ◌∙◌}
use mathlib.Core.List.{List, [], ◌∷◌}
use Prim.Native.Nat.{ℕ, zero, suc, ◌+◌, ◌≤◌}
use native.Mathlib.Nat.{zero-add}
use native.Mathlib.Omega.{arith}
use lib.ListN.{get_or, take}
use lib.Seq.{take-nil}
use Rattle.std.specs.Prelude as std
use Rattle.model.specs.Lists.{sum}

pub sum-next : (ls : List ℕ) (i : ℕ) → sum (take (suc i) ls) ≡ sum (take i ls) + get_or ls i 0
unfolding sum
sum-next [] i = rw (take-nil i)
sum-next (x ∷ ls) zero = omega arith
sum-next (x ∷ ls) (suc i) = omega (arith, sum-next ls i)

pub sum-within : (ls : List ℕ) (i : ℕ) → sum (take i ls) + get_or ls i 0 ≤ sum ls
unfolding sum
sum-within [] i = rw (take-nil i) (omega arith)
sum-within (x ∷ ls) zero = omega arith
sum-within (x ∷ ls) (suc i) = omega (arith, sum-within ls i)

pub sum-front : (ls : List ℕ) (i : ℕ) → sum (take i ls) ≤ sum ls
sum-front ls i = omega (arith, sum-within ls i)

-- as the library sums
fold-is : (a : ℕ) (ls : List ℕ) → std.fold (λ a x. a + x) a ls ≡ a + sum ls
unfolding sum
fold-is a [] = omega arith
fold-is a (x ∷ ls) = omega (arith, fold-is (a + x) ls)

pub sum_is : (ls : List ℕ) → std.sum ls ≡ sum ls
sum_is ls = fold-is 0 ls ∙ zero-add (sum ls)
