-- The nursery's cells below the cursor, as they are lent to be changed and as they come back.
use mathlib.Core.Path.{◌≡◌, sym, ap, ◌∙◌}
use mathlib.Core.Bool.{true}
use mathlib.Core.List.{List, ◌++◌, map, append_assoc}
use Prim.Native.Nat.{ℕ, ◌+◌, ◌-◌, ◌*◌, ◌≤◌}
use native.Mathlib.Omega.{arith}
use lib.ListN.{length, take, drop, length-append, length-map, take-append-drop}
use lib.Seq.{length-take-le, take_at, drop_at, take-take}
use borrow.Rule.Slice.PartMut.{put_mid}
use Rattle.model.specs.Lists.{keep_if, flat}
use Rattle.model.specs.Records.{Ptr, Cell, cell_words, all_valid, whole_cells}
use Rattle.model.specs.Heap.{Sizes, Nursery, Heap}
use Rattle.model.specs.Image.{sizes_of, decode}
use Rattle.model.specs.Collector.{holds, swap_cell}
use Rattle.model.specs.Calls.{cells_in}
use Rattle.theorems.specs.Fit.{FitNursery, Image}
use Rattle.theorems.specs.Does.{with_young}
use Rattle.theorems.proofs.Cells.{words-length, valid-append, whole_words, words-in}
use Rattle.theorems.proofs.Contents.{Valid, valid-all, all_valid_lem, valid-swap}
use Rattle.theorems.proofs.Lists.{take_in, drop-in}
use Rattle.theorems.proofs.Parts.{header, parts_of, encode-parts}
use Rattle.theorems.proofs.Tiles.{cursor-le}
use Rattle.slots.proofs.Flat.{words_append}
use Rattle.image.specs.Laid.{Laid}
use Rattle.image.specs.declared.places.Layout.{Layout}
use Rattle.fields.specs.Fields.{Reads, Turns, on_young}
use Rattle.fields.proofs.Parts.{n-is, young-cells, young-cells-put}
use Rattle.pointers.specs.Steps.{swapped_young}

swapped-fit : (z : Sizes) (y : Nursery) (m : Ptr × ℕ) → FitNursery z y → FitNursery z (swapped_young m y)
unfolding swapped_young
swapped-fit z y m f = record {
  cursor = f.cursor;
  colls = f.colls;
  proms = f.proms;
  bar = f.bar;
  lens = f.lens;
  tiled = f.tiled;
  cells = simp (length-append, length-map) (sym (length-append (take k cs) (drop k cs)) ∙ ap length (take-append-drop k cs) ∙ f.cells);
  valid = valid-append (map (swap_cell m) (take k cs)) (drop k cs) (valid-all _ (valid-swap m (take k cs) (λ c n. good c (take_in k cs c n)))) (valid-all _ (λ c n. good c (drop-in k cs c n)));
}
  where
    k : ℕ
    k = y.cursor

    cs : List Cell
    cs = y.cells

    good : Valid cs
    good = all_valid_lem cs f.valid

module _ {w : List ℕ} {l : Layout} (p : Laid w l) {k : ℕ} (at-cursor : Reads (λ h. h.young.cursor) w k) where
  -- how many words they are, and how many all the nursery's cells are

  abbrev size : ℕ
  size = l.young + 3 * k - l.young

  abbrev full : ℕ
  full = l.old - l.young

  module _ {h : Heap} (i : Image w h) where
    abbrev cs : List Cell
    cs = h.young.cells

    few : k ≤ length cs
    few = let c = cursor-le h.young.cursor h.size.n i.fit.young.cursor in omega (arith, at-cursor.reads h i)

    full_is : full ≡ length cs * 3
    unfolding sizes_of
    full_is = omega (arith, n-is i)

    size_is : length (cell_words (take k cs)) ≡ size
    size_is = words-length (take k cs) ∙ rw (length-take-le k cs few) (omega arith)

    pub end-inside : l.young + 3 * k ≤ length w
    end-inside = omega (arith, few, full_is)

    all_are : take full (drop l.young w) ≡ cell_words (take k cs) ++ cell_words (drop k cs)
    all_are = young-cells i p ∙ rw (← words_append, take-append-drop k cs)

    below-are : take size (drop l.young w) ≡ cell_words (take k cs)
    below-are = sym (take-take size full (drop l.young w) (omega (arith, few, full_is))) ∙ rw all_are (take_at (cell_words (take k cs)) (cell_words (drop k cs)) size size_is)

    rest-is : drop size (drop l.young w) ≡ cell_words (drop k cs) ++ drop full (drop l.young w)
    rest-is =
        let d : List ℕ = drop l.young w in
        let a : List ℕ = cell_words (take k cs) in
        let b : List ℕ = cell_words (drop k cs) in
        let parts : d ≡ a ++ (b ++ drop full d) = sym (take-append-drop full d) ∙ ap (λ (x : List ℕ). x ++ drop full d) all_are ∙ append_assoc a b (drop full d) in
        ap (drop size) parts ∙ drop_at a (b ++ drop full d) size size_is

    below-valid : all_valid (take k cs) ≡ true
    below-valid = valid-all _ (λ c n. all_valid_lem cs i.fit.young.valid c (take_in k cs c n))

    pub below-whole : whole_cells (take size (drop l.young w)) ≡ true
    below-whole = rw below-are (whole_words (take k cs) below-valid)

    below-cells : cells_in (take size (drop l.young w)) ≡ take k cs
    below-cells = rw below-are (words-in (take k cs) below-valid)

    put_is : (ys : List ℕ) → put_mid l.young size w ys ≡ put_mid l.young full w (ys ++ cell_words (drop k cs))
    put_is ys = rw (rest-is, append_assoc)

    module _ (m : Ptr × ℕ) {ys : List ℕ} (e : ys ≡ cell_words (map (swap_cell m) (cells_in (take size (drop l.young w))))) where
      swapped-image : Image (put_mid l.young size w ys) (on_young (swapped_young m) h)
      unfolding parts_of header flat with_young swapped_young
      swapped-image =
          let cells : ys ++ cell_words (drop k cs) ≡ cell_words (map (swap_cell m) (take h.young.cursor cs) ++ drop h.young.cursor cs) =
          rw (e, below-cells, ← words_append, at-cursor.reads h i) in
          record {
            is = put_is ys ∙ young-cells-put i (ys ++ cell_words (drop k cs)) p ∙ rw cells (sym (encode-parts (on_young (swapped_young m) h)));
            fit = record { sizes = i.fit.sizes; young = swapped-fit h.size h.young m i.fit.young; old = i.fit.old };
          }

  -- the image with the changed cells, and how many they are
  module _ (i : Image w (decode w)) (m : Ptr × ℕ) {ys : List ℕ} {r : ℕ}
      (c : (ys ≡ cell_words (map (swap_cell m) (cells_in (take size (drop l.young w))))) × (r ≡ length (keep_if (holds m.0) (cells_in (take size (drop l.young w)))))) where
    pub young-swapped : Turns (on_young (swapped_young m)) w (put_mid l.young size w ys) × (r ≡ length (keep_if (holds m.0) (take (decode w).young.cursor (decode w).young.cells)))
    young-swapped = (record { turns = λ h j. swapped-image j m c.0 }, rw (at-cursor.reads (decode w) i, ← below-cells i) c.1)

pub ruleset ends = (end-inside, below-whole)
