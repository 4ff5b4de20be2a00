-- An image is seven parts one behind the other: the header, both barriers' counts, both generations' lengths and cells. A part
-- that is replaced by words of the same number gives the image of a heap that differs there alone.
use mathlib.Core.Path.{◌≡◌, refl, ap}
use mathlib.Core.List.{List, [], ◌∷◌, ◌++◌, map, append_assoc, append-nil}
use Prim.Native.Nat.{ℕ, zero, suc, ◌+◌, ◌-◌, ◌*◌, ◌<◌}
use native.Mathlib.Nat.{not-suc-le-zero, le_of_suc-le-suc}
use native.Mathlib.Omega.{arith}
use lib.ListN.{length, get_or, take, drop, set, replicate}
use lib.Seq.{take_at, drop_at, take-append-add, drop-append-add}
use Rattle.model.specs.Lists.{flat, sum}
use Rattle.model.specs.Records.{cell_words}
use Rattle.model.specs.Barrier.{counts}
use Rattle.model.specs.Heap.{Heap, in_use}
use Rattle.model.specs.Image.{flag, encode}

-- any list of parts

module _ {A : Type 0} where
  abbrev pub start_of : List (List A) → ℕ → ℕ
  start_of ps k = sum (take k (map length ps))

  pub part_at : (ps : List (List A)) (k : ℕ) → k < length ps → take (length (get_or ps k [])) (drop (start_of ps k) (flat ps)) ≡ get_or ps k []
  unfolding flat sum
  part_at [] k h = absurd (not-suc-le-zero h)
  part_at (p ∷ ps) zero h = take_at p (flat ps) (length p) refl
  part_at (p ∷ ps) (suc k) h = rw (drop-append-add p (flat ps) (start_of ps k)) (part_at ps k (le_of_suc-le-suc h))

  pub part-put : (ps : List (List A)) (k : ℕ) (ys : List A) → k < length ps
      → take (start_of ps k) (flat ps) ++ (ys ++ drop (start_of ps k + length (get_or ps k [])) (flat ps)) ≡ flat (set ps k ys)
  unfolding flat sum
  part-put [] k ys h = absurd (not-suc-le-zero h)
  part-put (p ∷ ps) zero ys h = let e : 0 + length p ≡ length p = omega arith in rw (e, drop_at p (flat ps) (length p) refl)
  part-put (p ∷ ps) (suc k) ys h =
      let a : length p + start_of ps k + length (get_or ps k []) ≡ length p + (start_of ps k + length (get_or ps k [])) = omega arith in
      rw (a, take-append-add p (flat ps) (start_of ps k), drop-append-add p (flat ps) (start_of ps k + length (get_or ps k [])), append_assoc)
      (ap (λ (l : List A). p ++ l) (part-put ps k ys (le_of_suc-le-suc h)))

-- the parts of an image

unfoldable pub header : Heap → List ℕ
header h = h.size.n ∷ h.size.t ∷ h.size.s ∷ h.size.c ∷ h.young.cursor ∷ h.young.colls ∷ h.young.proms ∷ h.old.colls ∷ flag h.young.bar ∷ flag h.old.bar ∷ []

unfoldable pub parts_of : Heap → List (List ℕ)
parts_of h =
    header h ∷ counts h.young.bar ∷ counts h.old.bar ∷ h.young.lens ∷ map length h.old.slots ∷ cell_words h.young.cells
    ∷ (cell_words (flat h.old.slots) ++ replicate ((h.size.c - in_use h.old.slots) * 3) 0) ∷ []

pub encode-parts : (h : Heap) → encode h ≡ flat (parts_of h)
unfolding encode parts_of header flat
encode-parts h = simp append-nil
