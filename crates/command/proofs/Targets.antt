-- Where an access goes: a pointer's offset and the added one, summed as integers by the code and as words by the model.
use mathlib.Core.Path.{◌≡◌, refl, ap, ◌∙◌}
use mathlib.Core.Bool.{Bool, true, false}
use mathlib.Core.Logic.{◌⊎◌, inl, inr, ⊎_elim}
use Prim.Native.Nat.{ℕ, suc, ◌+◌, ◌-◌, ◌%◌, ◌<◌, ◌≤◌, ◌^◌}
use native.Mathlib.Omega.{arith}
use lib.Dec.{ltb, leb}
use lib.IntN.{ℤ, pos, negsuc, ◌+ℤ◌, sub_ℕ}
use lib.Signed.{mag}
use mir.Syntax.{w64}
use mir.Val.{SFits, of_z}
use borrow.Author.Tests.{lt-ltb, le-ltb, le-leb, leb-true, ltb-true, ltb-false}
use Rattle.model.specs.Records.{blank, biased, sum_fits}
use Rattle.model.specs.Run.{pointer_in, added}
use Rattle.value.specs.declared.Pointer.{Pointer}
use Rattle.value.specs.declared.Value.{Value}
use Rattle.value.specs.declared.Value.TheVariants.{Uninitialized, Int, Bool as BoolV, Float as FloatV, Char, Pointer as PointerV}
use Rattle.value.specs.Value.{value_cell}
use Rattle.command.specs.Steps.{target_answer, target_in}
use Rattle.std.proofs.Common.{Ok, Err}
use Rattle.question.specs.declared.Question.TheVariants.{Range, Pointer as NoPointer}
use Rattle.theorems.proofs.Lists.{and_parts}

-- a - b by which is larger

lt-or-ge : (a b : ℕ) → (a < b) ⊎ (b ≤ a)
lt-or-ge a b = go (ltb a b) refl
  where
    go : (t : Bool) → ltb a b ≡ t → (a < b) ⊎ (b ≤ a)
    go true e = inl (ltb-true a b e)
    go false e = inr (ltb-false a b e)

sub-pos : (a b : ℕ) → b ≤ a → sub_ℕ a b ≡ pos (a - b)
sub-pos a b h = rw (le-ltb a b h)

sub-neg : (a b : ℕ) → a < b → sub_ℕ a b ≡ negsuc (b - suc a)
sub-neg a b h = rw (lt-ltb a b h)

mag-sub : (a b : ℕ) → a ≤ 2 ^ 63 → b ≤ 2 ^ 63 → 0 < b → mag (sub_ℕ a b) < 2 ^ 63
mag-sub a b ha hb p = ⊎_elim (λ l. rw (sub-neg a b l) (omega arith)) (λ g. rw (sub-pos a b g) (omega arith)) (lt-or-ge a b)

-- the words of a number

-- a number moved up by 2^63
abbrev lifted : ℤ → ℕ
lifted (pos n) = n + 2 ^ 63
lifted (negsuc n) = 2 ^ 63 - suc n

lifted-is : (x : ℤ) → SFits w64 x → biased (of_z w64 x) ≡ lifted x
unfolding biased
lifted-is (pos n) f = omega (arith, f.sfits)
lifted-is (negsuc n) f = omega (arith, f.sfits)

fits_by : (x d : ℤ) → SFits w64 x → SFits w64 d → 2 ^ 63 ≤ lifted x + lifted d → lifted x + lifted d < 2 ^ 64 + 2 ^ 63 → sum_fits (of_z w64 x) (of_z w64 d) ≡ true
unfolding sum_fits
fits_by x d f g low high = rw (lifted-is x f, lifted-is d g, le-leb (2 ^ 63) (lifted x + lifted d) low, lt-ltb (lifted x + lifted d) (2 ^ 64 + 2 ^ 63) high)

-- a sum that is an i64

pub sum_fits_lem : (x d : ℤ) → SFits w64 x → SFits w64 d → SFits w64 (x +ℤ d) → sum_fits (of_z w64 x) (of_z w64 d) ≡ true
sum_fits_lem (pos m) (pos n) f g h = fits_by (pos m) (pos n) f g (omega arith) (omega (arith, h.sfits))
sum_fits_lem (pos m) (negsuc n) f g h = fits_by (pos m) (negsuc n) f g (omega (arith, g.sfits)) (omega (arith, f.sfits))
sum_fits_lem (negsuc m) (pos n) f g h = fits_by (negsuc m) (pos n) f g (omega (arith, f.sfits)) (omega (arith, g.sfits))
sum_fits_lem (negsuc m) (negsuc n) f g h = fits_by (negsuc m) (negsuc n) f g (omega (arith, h.sfits)) (omega arith)

sub_word : (a b : ℕ) → a < 2 ^ 63 → b ≤ 2 ^ 63 → 0 < b → of_z w64 (sub_ℕ a b) ≡ (a + (2 ^ 64 - b)) % 2 ^ 64
sub_word a b ha hb p = ⊎_elim (λ l. rw (sub-neg a b l) (omega arith)) (λ g. rw (sub-pos a b g) (omega arith)) (lt-or-ge a b)

pub sum-word : (x d : ℤ) → SFits w64 x → SFits w64 d → SFits w64 (x +ℤ d) → of_z w64 (x +ℤ d) ≡ (of_z w64 x + of_z w64 d) % 2 ^ 64
sum-word (pos m) (pos n) f g h = omega (arith, f.sfits, g.sfits)
sum-word (pos m) (negsuc n) f g h = sub_word m (suc n) f.sfits g.sfits (omega arith)
sum-word (negsuc m) (pos n) f g h = sub_word n (suc m) g.sfits f.sfits (omega arith) ∙ ap (λ (k : ℕ). k % 2 ^ 64) (omega arith)
sum-word (negsuc m) (negsuc n) f g h = omega (arith, h.sfits)

-- a sum that is none

-- the model's test of a sum, in such numbers
tested : (x d : ℤ) → SFits w64 x → SFits w64 d → sum_fits (of_z w64 x) (of_z w64 d) ≡ true → (2 ^ 63 ≤ lifted x + lifted d) × (lifted x + lifted d < 2 ^ 64 + 2 ^ 63)
unfolding sum_fits
tested x d f g e =
    let (low, high) = and_parts (leb (2 ^ 63) (lifted x + lifted d)) (ltb (lifted x + lifted d) (2 ^ 64 + 2 ^ 63)) (rw (lifted-is x f, lifted-is d g) at e) in
    (leb-true (2 ^ 63) (lifted x + lifted d) low, ltb-true (lifted x + lifted d) (2 ^ 64 + 2 ^ 63) high)

sum_is_small : (x d : ℤ) → SFits w64 x → SFits w64 d → sum_fits (of_z w64 x) (of_z w64 d) ≡ true → SFits w64 (x +ℤ d)
sum_is_small (pos m) (pos n) f g e = record { sfits = omega (arith, (tested (pos m) (pos n) f g e).1) }
sum_is_small (pos m) (negsuc n) f g e = record { sfits = mag-sub m (suc n) (omega (arith, f.sfits)) (omega (arith, g.sfits)) (omega arith) }
sum_is_small (negsuc m) (pos n) f g e = record { sfits = mag-sub n (suc m) (omega (arith, g.sfits)) (omega (arith, f.sfits)) (omega arith) }
sum_is_small (negsuc m) (negsuc n) f g e = record { sfits = omega (arith, (tested (negsuc m) (negsuc n) f g e).0, f.sfits, g.sfits) }

no-sum : (x d : ℤ) → SFits w64 x → SFits w64 d → (SFits w64 (x +ℤ d) → ⊥) → sum_fits (of_z w64 x) (of_z w64 d) ≡ false
no-sum x d f g n = go (sum_fits (of_z w64 x) (of_z w64 d)) refl
  where
    go : (t : Bool) → sum_fits (of_z w64 x) (of_z w64 d) ≡ t → t ≡ false
    go true e = absurd (n (sum_is_small x d f g e))
    go false e = refl

-- the answers

pub no_pointer : (v : Value) (d : ℕ) → ((p : Pointer) → v ≡ PointerV p → ⊥) → target_answer (Err NoPointer) ≡ target_in (value_cell v) d
unfolding target_in pointer_in value_cell blank
no_pointer Uninitialized d k = refl
no_pointer (Int x) d k = refl
no_pointer (BoolV b) d k = refl
no_pointer (FloatV n b) d k = refl
no_pointer (Char c) d k = refl
no_pointer (PointerV p) d k = absurd (k p refl)

module _ (v : Value) (p : Pointer) (d : ℤ) (e : v ≡ PointerV p) where
  pub beyond : SFits w64 p.offset → SFits w64 d → (SFits w64 (p.offset +ℤ d) → ⊥) → target_answer (Err Range) ≡ target_in (value_cell v) (of_z w64 d)
  unfolding target_in pointer_in added value_cell
  beyond f g n = rw (e, no-sum p.offset d f g n)

  pub within : SFits w64 p.offset → SFits w64 d → SFits w64 (p.offset +ℤ d) → target_answer (Ok (record { heap = p.heap; base = p.base; offset = p.offset +ℤ d })) ≡ target_in (value_cell v) (of_z w64 d)
  unfolding target_in pointer_in added value_cell
  within f g h = rw (e, sum_fits_lem p.offset d f g h, sum-word p.offset d f g h)
