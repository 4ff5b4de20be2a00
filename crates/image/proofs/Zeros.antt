-- A fresh image is its four sizes, then zeros.
use mathlib.Core.Path.{◌≡◌, refl, sym, ap, ◌∙◌}
use mathlib.Core.Bool.{Bool, true, false, ◌&&◌}
use mathlib.Core.List.{List, [], ◌∷◌, map}
use Rattle.std.specs.Prelude.{Ok, Err}
use Prim.Native.Nat.{ℕ, zero, suc, ◌+◌, ◌-◌, ◌*◌, ◌≤◌}
use native.Mathlib.Omega.{arith}
use lib.Dec.{eqb}
use borrow.Author.Tests.{eqb-true}
use lib.ListN.{length, drop, replicate, replicate-append-replicate}
use Rattle.model.specs.Lists.{flat}
use Rattle.model.specs.Records.{Cell, blank, cell_words}
use Rattle.model.specs.Barrier.{cache, counts}
use Rattle.model.specs.Heap.{Sizes, in_bounds, fresh, in_use}
use Rattle.model.specs.Image.{image_length, flag, encode}
use Rattle.model.specs.Calls.{left, new_call}
use Rattle.theorems.proofs.Lists.{and_right}
use Rattle.question.specs.declared.Question.TheVariants as question
use Rattle.image.specs.Answers.{made_outcome}
use Rattle.image.proofs.Bounds.{said-no, said-yes}

-- the image of a fresh heap: four sizes, then zeros

no-slots : (n : ℕ) → ◌≡◌ {A = List Cell} (flat (replicate n [])) []
unfolding flat
no-slots zero = refl
no-slots (suc n) = no-slots n

no_lengths : (n : ℕ) → map (length {A = Cell}) (replicate n []) ≡ replicate n 0
no_lengths zero = refl
no_lengths (suc n) = ap (λ (l : List ℕ). 0 ∷ l) (no_lengths n)

blanks : (n : ℕ) → cell_words (replicate n blank) ≡ replicate (n * 3) 0
unfolding cell_words blank
blanks zero = refl
blanks (suc n) = let three : suc n * 3 ≡ suc (suc (suc (n * 3))) = omega arith in rw three (ap (λ (l : List ℕ). 0 ∷ 0 ∷ 0 ∷ l) (blanks n))

zeros-count : (n s c : ℕ) → suc (suc (suc (suc (suc (suc (cache + (cache + (n + (s + (n * 3 + (c - 0) * 3)))))))))) ≡ 522 + 4 * n + s + 3 * c - 4
unfolding cache
zeros-count n s c = omega arith

pub fresh-image : (z : Sizes) → encode (fresh z) ≡ z.n ∷ z.t ∷ z.s ∷ z.c ∷ replicate (image_length z - 4) 0
unfolding encode fresh flag counts in_use cell_words image_length
fresh-image z =
    rw (no-slots z.s, no_lengths z.s, blanks z.n)
    (simp replicate-append-replicate
    (ap (λ (k : ℕ). z.n ∷ z.t ∷ z.s ∷ z.c ∷ replicate k 0) (zeros-count z.n z.s z.c)))

-- what the code leaves

after-four : (k : ℕ) → drop 4 (replicate {A = ℕ} k 0) ≡ replicate (k - 4) 0
after-four zero = refl
after-four (suc zero) = refl
after-four (suc (suc zero)) = refl
after-four (suc (suc (suc zero))) = refl
after-four (suc (suc (suc (suc k)))) = let e : suc (suc (suc (suc k))) - 4 ≡ k = omega arith in rw e

module _ {p : Bool} (z : Sizes) (w : List ℕ) (e : p ≡ (in_bounds z && eqb (length w) (image_length z))) where
  pub new-refused : p ≡ false → made_outcome (Err question.Sizes) w ≡ new_call z w
  unfolding made_outcome new_call left
  new-refused h = rw (said-no e h)

  new-length : p ≡ true → length w ≡ image_length z
  new-length h = eqb-true _ _ (and_right (in_bounds z) _ (said-yes e h))

  pub new-room : p ≡ true → 4 ≤ length w
  unfolding image_length
  new-room h = omega (arith, new-length h)

  pub new-done : {v : List ℕ} → p ≡ true → v ≡ z.n ∷ z.t ∷ z.s ∷ z.c ∷ drop 4 (replicate (length w) 0) → made_outcome (Ok tt) v ≡ new_call z w
  unfolding made_outcome new_call left
  new-done {v} h q =
      let image : v ≡ encode (fresh z) = q ∙ rw (after-four (length w), new-length h) (sym (fresh-image z)) in
      rw (said-yes e h, image)
