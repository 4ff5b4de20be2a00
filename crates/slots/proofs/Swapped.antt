-- The elder's cells, changed in place.
use mathlib.Core.Path.{◌≡◌, refl, sym, ap, ap₂, ◌∙◌}
use mathlib.Core.Bool.{true}
use mathlib.Core.List.{List, [], ◌∷◌, ◌++◌, map}
use Prim.Native.Nat.{ℕ, ◌+◌, ◌-◌, ◌*◌, ◌^◌, ◌≤◌, ◌<◌}
use native.Mathlib.Omega.{arith}
use mir.Val.{Fits}
use mir.Syntax.{w64}
use lib.ListN.{length, take, drop, length-drop, length-map}
use lib.Seq.{take_at}
use Rattle.model.specs.Lists.{keep_if, flat, sum}
use Rattle.model.specs.Records.{Ptr, Cell, cell_words, all_valid, whole_cells}
use Rattle.model.specs.Heap.{in_use}
use Rattle.model.specs.Collector.{holds, swap_cell}
use Rattle.model.specs.Calls.{cells_in}
use Rattle.theorems.proofs.Cells.{words-length, whole_words, words-in}
use Rattle.theorems.proofs.Contents.{flat_map, valid-all, all_valid_lem, valid-swap}
use Rattle.theorems.proofs.Elder.{flat-map-length}
use Rattle.words.specs.Words.{padded}
use Rattle.slots.specs.Slots.{Elder, Changed}
use Rattle.slots.proofs.Counts.{packed-sum, packed-rest}
use Rattle.slots.proofs.Changes.{changed}

lengths-same : (f : Cell → Cell) (ss : List (List Cell)) → map length (map (map f) ss) ≡ map length ss
lengths-same f [] = refl
lengths-same f (s ∷ ss) = ap₂ ◌∷◌ (length-map s f) (lengths-same f ss)

module _ {s at : ℕ} {w : List ℕ} {ss : List (List Cell)} (v : Elder s at w ss) (used : ℕ) (e : used ≡ sum (take s w)) where
  used-is : used ≡ length (flat ss)
  unfolding in_use
  used-is = e ∙ packed-sum v.packed

  pub end-inside : at + 3 * used ≤ length w
  unfolding in_use
  end-inside = omega (arith, used-is, v.packed.fits, length-drop at w, v.inside)

  pub end_fits : length w < 2 ^ 64 → Fits w64 (at + 3 * used)
  end_fits h = omega (arith, end-inside)

  pub end-fits-3 : length w < 2 ^ 64 → Fits w64 (3 * used)
  end-fits-3 h = omega (arith, end-inside)

  -- the cells' words, as they are lent
  abbrev part : List ℕ
  part = take (at + 3 * used - at) (drop at w)

  part_length : length (cell_words (flat ss)) ≡ at + 3 * used - at
  part_length = words-length (flat ss) ∙ omega (arith, used-is)

  part-is : part ≡ cell_words (flat ss)
  unfolding padded
  part-is = rw v.packed.cells (take_at (cell_words (flat ss)) _ (at + 3 * used - at) part_length)

  pub part_count : length part ≡ used * 3
  part_count = rw part-is (omega (arith, part_length))

  pub part-whole : whole_cells part ≡ true
  part-whole = rw part-is (whole_words (flat ss) v.packed.valid)

  part-cells : cells_in part ≡ flat ss
  part-cells = rw part-is (words-in (flat ss) v.packed.valid)

  module _ (q : Ptr) {r : ℕ} (p : r ≡ length (keep_if (holds q) (cells_in part))) where
    pub swap-count : r ≡ length (keep_if (holds q) (flat ss))
    swap-count = p ∙ ap (λ (l : List Cell). length (keep_if (holds q) l)) part-cells

  module _ (m : Ptr × ℕ) {ys : List ℕ} (p : ys ≡ cell_words (map (swap_cell m) (cells_in part))) where
    pub swap-made : Changed s at w (take at w ++ (ys ++ drop (at + 3 * used - at) (drop at w))) (map (map (swap_cell m)) ss)
    unfolding in_use padded
    swap-made =
        let rs : List (List Cell) = map (map (swap_cell m)) ss in
        let k : ℕ = at + 3 * used - at in
        let same : length (flat rs) ≡ length (flat ss) = flat-map-length (swap_cell m) ss in
        let long : k ≡ length (cell_words (flat rs)) = omega (arith, words-length (flat rs), used-is) in
        let cells : ys ≡ cell_words (flat rs) = p ∙ ap cell_words (ap (map (swap_cell m)) part-cells ∙ sym (flat_map (swap_cell m) ss)) in
        let words : ys ++ drop k (drop at w) ≡ padded (cell_words (flat rs)) (length (drop at w)) = rw (cells, packed-rest v.packed k (omega (arith, used-is)), long) in
        let valid : all_valid (flat rs) ≡ true = rw (flat_map (swap_cell m) ss) (valid-all _ (valid-swap m (flat ss) (all_valid_lem (flat ss) v.packed.valid))) in
        changed w v.order v.inside refl rs (v.packed.lens ∙ sym (lengths-same (swap_cell m) ss)) (length (drop at w)) (omega (arith, v.packed.fits)) valid (ys ++ drop k (drop at w)) words

pub ruleset swapped = (end-fits-3, end_fits, end-inside, part-whole, swap-count, swap-made)
