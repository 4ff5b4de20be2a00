-- One cell written.
use mathlib.Core.Path.{◌≡◌, refl, sym, ap, ◌∙◌}
use mathlib.Core.Bool.{true}
use mathlib.Core.List.{List, [], ◌∷◌, ◌++◌, map}
use Prim.Native.Nat.{ℕ, zero, suc, ◌+◌, ◌*◌, ◌^◌, ◌≤◌, ◌<◌}
use native.Mathlib.Nat.{not-suc-le-zero, zero-add}
use native.Mathlib.Omega.{arith}
use mir.Val.{Fits}
use mir.Syntax.{w64}
use lib.ListN.{length, get_or, set, take, drop, length-append, length-drop, length-set}
use lib.Seq.{paste, set-append_left, map-set_same}
use Rattle.model.specs.Lists.{flat, sum}
use Rattle.model.specs.Records.{Cell, cell_words, valid, all_valid, whole_cells}
use Rattle.model.specs.Heap.{in_use}
use Rattle.theorems.proofs.Cells.{words-length, cell-pasted, one_cell_lem}
use Rattle.theorems.proofs.Contents.{valid-all, all_valid_lem, valid-set}
use Rattle.theorems.proofs.Elder.{in-range}
use Rattle.theorems.proofs.Lists.{flat_in}
use Rattle.words.specs.Words.{padded}
use Rattle.slots.specs.Slots.{Elder, Changed, slots_at, written}
use Rattle.slots.proofs.Flat.{use-split}
use Rattle.slots.proofs.Counts.{packed_start, packed-size}
use Rattle.slots.proofs.Parts.{lent, returned, lent_is, lent_length, returned-is}
use Rattle.slots.proofs.Changes.{changed}
use Rattle.slots.proofs.Places.{set-valid}

set-behind : (a b : List Cell) (i : ℕ) (c : Cell) → set (a ++ b) (length a + i) c ≡ a ++ set b i c
set-behind [] b i c = rw zero-add
set-behind (x ∷ a) b i c = let e : suc (length a) + i ≡ suc (length a + i) = omega arith in rw (e, set-behind a b i c)

flat-write : (ss : List (List Cell)) (b o : ℕ) (c : Cell) → o < length (get_or ss b []) → flat (set ss b (set (get_or ss b []) o c)) ≡ set (flat ss) (in_use (take b ss) + o) c
unfolding flat in_use
flat-write [] b o c h = absurd (not-suc-le-zero h)
flat-write (s ∷ ss) zero o c h = rw zero-add (sym (set-append_left s (flat ss) o c h))
flat-write (s ∷ ss) (suc b) o c h =
    let e : length (s ++ flat (take b ss)) + o ≡ length s + (length (flat (take b ss)) + o) = omega (arith, length-append s (flat (take b ss))) in
    rw (e, set-behind s (flat ss) (length (flat (take b ss)) + o) c, flat-write ss b o c h)

-- `write_old`: f is where slot b starts

module _ {s at : ℕ} {w : List ℕ} {ss : List (List Cell)} (v : Elder s at w ss) (b o : ℕ) (h : o < length (get_or ss b [])) where
  pub write-base : b ≤ length (take s w)
  write-base = omega (arith, in-range ss b h, packed-size v.packed)

  module _ (f : ℕ) (e : f ≡ sum (take b (take s w))) where
    write-below : f + o < in_use ss
    write-below = omega (arith, packed_start v.packed b, use-split ss b (in-range ss b h))

    pub write-fits : length w < 2 ^ 64 → Fits w64 (f + o)
    write-fits l = omega (arith, write-below, v.packed.fits, length-drop at w)

    pub write-fits-3 : length w < 2 ^ 64 → Fits w64 (3 * (f + o))
    write-fits-3 l = omega (arith, write-below, v.packed.fits, length-drop at w)

    pub write-room : (n : ℕ) → n ≡ 3 → 3 * (f + o) + n ≤ length (lent at w)
    write-room n k = omega (arith, write-below, v.packed.fits, length-drop at w, lent_length w at v.inside)

    write-words : (c : Cell) → paste (lent at w) (3 * (f + o)) (cell_words (c ∷ [])) 3 ≡ padded (cell_words (flat (set ss b (set (get_or ss b []) o c)))) (length (drop at w))
    unfolding padded in_use
    write-words c =
        let i : ℕ = length (flat (take b ss)) + o in
        let place : f + o ≡ i = omega (arith, packed_start v.packed b) in
        let same : length (cell_words (set (flat ss) i c)) ≡ length (cell_words (flat ss)) = omega (arith, words-length (set (flat ss) i c), words-length (flat ss), length-set (flat ss) i c) in
        rw (lent_is w at v.inside, place, flat-write ss b o c h, same) (ap (λ (d : List ℕ). paste d (3 * i) (cell_words (c ∷ [])) 3) v.packed.cells ∙ cell-pasted (flat ss) _ i c (omega (arith, write-below)))

    write_done : (c : Cell) → valid c ≡ true → {ys : List ℕ} → ys ≡ paste (lent at w) (3 * (f + o)) (cell_words (c ∷ [])) 3 → Changed s at w (returned at w ys) (set ss b (set (get_or ss b []) o c))
    unfolding in_use
    write_done c u {ys} q =
        let x : List Cell = get_or ss b [] in
        let rs : List (List Cell) = set ss b (set x o c) in
        let long : length (flat rs) ≡ length (flat ss) = rw (flat-write ss b o c h) (length-set (flat ss) (in_use (take b ss) + o) c) in
        let lens : take s w ≡ map length rs = v.packed.lens ∙ sym (map-set_same length ss b (set x o c) [] (length-set x o c)) in
        let all = all_valid_lem (flat ss) v.packed.valid in
        let slot : all_valid (set x o c) ≡ true = valid-set x o c (valid-all x (λ d m. all d (flat_in ss b d m))) u in
        rw (returned-is w at v.inside ys) (changed w v.order v.inside refl rs lens (length (drop at w)) (omega (arith, v.packed.fits)) (set-valid ss b (set x o c) v.packed.valid slot) ys (q ∙ write-words c))

module _ (cell : List ℕ) (k : length cell ≡ 3) (u : whole_cells cell ≡ true) where
  pub write-made : {s at : ℕ} {w : List ℕ} → Elder s at w (slots_at s at w) → (b o : ℕ) → o < length (get_or (slots_at s at w) b []) → (f : ℕ) → f ≡ sum (take b (take s w))
      → {ys : List ℕ} → ys ≡ paste (lent at w) (3 * (f + o)) cell (length cell) → Changed s at w (returned at w ys) (written b o cell (slots_at s at w))
  write-made {at = at} {w} v b o h f e q = let (is, good) = one_cell_lem cell k u in write_done v b o h f e _ good (q ∙ (λ i. paste (lent at w) (3 * (f + o)) (is i) (k i)))

pub ruleset writes = (write-base, write-fits, write-fits-3, write-room, write-made)
