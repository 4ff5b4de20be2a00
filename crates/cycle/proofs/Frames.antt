-- What stays in scratch.
use mathlib.Core.Path.{◌≡◌, sym, ap, ◌∙◌}
use mathlib.Core.List.{List, [], ◌∷◌, ◌++◌}
use Prim.Native.Nat.{ℕ, ◌+◌, ◌*◌, ◌≤◌, ◌<◌}
use native.Mathlib.Nat.{zero-add}
use native.Mathlib.Numerals.{add-one}
use native.Mathlib.Omega.{arith}
use lib.ListN.{length, get_or, take, drop}
use lib.Seq.{take-take, take-add, drop-append_seam, get_or-take}
use Rattle.model.specs.Heap.{Sizes}
use Rattle.model.specs.Image.{image_length}
use Rattle.image.specs.Places.{lengths_at, young_cells_at}
use Rattle.trace.specs.Words.{ptr_at, members}
use Rattle.trace.proofs.Entries.{tab-snoc, tab-ext}
use Rattle.pointers.specs.Steps.{move_at, moves_in}
use Rattle.cycle.specs.Scratch.{young_in, parts_in, Saved, Front}

module _ {k : ℕ} {s s' : List ℕ} (f : Front k s s') where
  pub front_less : {m : ℕ} → m ≤ k → Front m s s'
  front_less {m} l = record { same = sym (take-take m k s' l) ∙ ap (take m) f.same ∙ take-take m k s l }

  pub word_same : (i : ℕ) → i < k → get_or s' i 0 ≡ get_or s i 0
  word_same i l = sym (get_or-take k s' i 0 l) ∙ ap (λ (x : List ℕ). get_or x i 0) f.same ∙ get_or-take k s i 0 l

  -- a part of them
  pub part_same : (a b : ℕ) → a + b ≤ k → take b (drop a s') ≡ take b (drop a s)
  part_same a b l =
      let e : take a s' ≡ take a s = (front_less {m = a} (omega arith)).same in
      let g : take (a + b) s' ≡ take (a + b) s = (front_less {m = a + b} l).same in
      sym (drop-append_seam (take a s') (take b (drop a s'))) ∙ rw (← take-add a b s', g, e, take-add a b s) (drop-append_seam (take a s) (take b (drop a s)))

  pub young-same : (z : Sizes) → image_length z ≤ k → young_in z s' ≡ young_in z s
  unfolding young_in image_length
  young-same z l = rw (part_same lengths_at z.n (omega arith), part_same (young_cells_at z.n z.s) (3 * z.n) (omega arith))

  pub parts_same : (z : Sizes) → image_length z ≤ k → parts_in z s' ≡ parts_in z s
  unfolding parts_in
  parts_same z l = rw (young-same z l)

  pub saved-same : {z : Sizes} → image_length z ≤ k → length s' ≡ length s → Saved z s → Saved z s'
  unfolding image_length
  saved-same {z} l n d =
      let y : young_in z s' ≡ young_in z s = young-same z l in
      record { long = omega (arith, d.long); whole = rw (part_same (young_cells_at z.n z.s) (3 * z.n) (omega arith)) d.whole; inside = rw y d.inside }

-- the survivors' list and their new bases

module _ (n : ℕ) (x y : List ℕ) (e : (j : ℕ) → j < 3 * n → get_or x j 0 ≡ get_or y j 0) where
  pub moves-same : (a b : List ℕ) → ((j : ℕ) → j < n → get_or a j 0 ≡ get_or b j 0) → moves_in n x a ≡ moves_in n y b
  unfolding moves_in move_at ptr_at
  moves-same a b f = tab-ext (move_at x a) (move_at y b) 0 n (λ k l. rw (e (3 * k + 1) (omega arith), e (3 * k + 2) (omega arith), f k (omega arith)))

pub members-more : (n : ℕ) (x : List ℕ) → members (n + 1) x ≡ members n x ++ ptr_at x n ∷ []
unfolding members
members-more n x = rw add-one (rw zero-add at (tab-snoc (ptr_at x) 0 n))

pub moves_more : (n : ℕ) (x a : List ℕ) → moves_in (n + 1) x a ≡ moves_in n x a ++ move_at x a n ∷ []
unfolding moves_in
moves_more n x a = rw add-one (rw zero-add at (tab-snoc (move_at x a) 0 n))
