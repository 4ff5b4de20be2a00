-- The nursery's part of an image: what fits, its lengths and cells as they are lent, and the words of one allocation.
use mathlib.Core.Path.{◌≡◌, refl, sym, ap, ◌∙◌}
use mathlib.Core.Bool.{Bool}
use mathlib.Core.List.{List, [], ◌∷◌}
use Prim.Native.Nat.{ℕ, zero, suc, ◌+◌, ◌-◌, ◌*◌, ◌/◌, ◌≤◌, ◌<◌}
use native.Mathlib.Omega.{arith}
use lib.Dec.{ltb}
use lib.ListN.{length, get_or, take, drop}
use Rattle.model.specs.Records.{Ptr, Cell, cell_words}
use Rattle.model.specs.Heap.{Nursery, Heap, part}
use Rattle.model.specs.Image.{Regions, regions, decode}
use Rattle.model.specs.Nursery.{young_members, all_allocated}
use Rattle.model.specs.Calls.{cells_in}
use Rattle.theorems.specs.Fit.{Image}
use Rattle.theorems.proofs.Cells.{words-cons, words-length, words-in}
use Rattle.theorems.proofs.Image.{regions_of, encode-regions}
use Rattle.theorems.proofs.Members.{young-few}
use Rattle.theorems.proofs.Tiles.{cursor-le, allocation-inside}
use Rattle.trace.specs.Words.{members}
use Rattle.trace.proofs.Entries.{length-members}
use Rattle.trace.proofs.Places.{in-length}
use Rattle.image.specs.Laid.{regions_at, Laid}
use Rattle.image.specs.declared.places.Layout.{Layout}
use Rattle.fields.specs.Fields.{Reads}
use Rattle.nursery.specs.Steps.{Listed}

-- what fits

module _ {w : List ℕ} {n cursor : ℕ} (size : Reads (λ h. h.size.n) w n) (at : Reads (λ h. h.young.cursor) w cursor) where
  pub cursor-within : Image w (decode w) → cursor ≤ n
  cursor-within i = omega (arith, size.reads _ i, at.reads _ i, cursor-le _ _ i.fit.young.cursor)

  pub fits_read : (amount : ℕ) → Reads (λ h. ltb amount (h.size.n - h.young.cursor)) w (ltb amount (n - cursor))
  fits_read amount = record { reads = λ h i. rw (size.reads h i, at.reads h i) }

-- the lengths and the cells, as they are lent

abbrev lens_at : Layout → List ℕ → List ℕ
lens_at l w = take (l.slots - l.lens) (drop l.lens w)

abbrev cells_at : Layout → List ℕ → List ℕ
cells_at l w = take (l.old - l.young) (drop l.young w)

module _ {w : List ℕ} {l : Layout} (p : Laid w l) where
  module _ {h : Heap} (i : Image w h) where
    regions-are : regions_at l w ≡ regions_of h
    regions-are = sym p.parts ∙ ap regions i.is ∙ encode-regions h i.fit

    lens-are : lens_at l w ≡ h.young.lens
    unfolding regions_at regions_of
    lens-are = let e : l.slots - l.lens ≡ l.n = omega (arith, p.slots) in rw e (ap (λ (r : Regions). r.lens) regions-are)

    cells_are : cells_at l w ≡ cell_words h.young.cells
    unfolding regions_at regions_of
    cells_are = let e : l.old - l.young ≡ l.n * 3 = omega (arith, p.old) in rw e (ap (λ (r : Regions). r.young_cells) regions-are)

    lens-long : length (lens_at l w) ≡ h.size.n
    lens-long = ap length lens-are ∙ i.fit.young.lens

    cells-in : h.young.cells ≡ cells_in (cells_at l w)
    cells-in = rw cells_are (sym (words-in h.young.cells i.fit.young.valid))

    pub cells-long : length (cells_at l w) ≡ 3 * length (lens_at l w)
    cells-long = omega (arith, lens-long, ap length cells_are, words-length h.young.cells, i.fit.young.cells)

    pub lens-inside : (b : ℕ) → 0 < get_or (lens_at l w) b 0 → b + get_or (lens_at l w) b 0 ≤ length (lens_at l w)
    lens-inside b = rw lens-are λ a. omega (arith, allocation-inside _ _ b i.fit.young.tiled a, cursor-le _ _ i.fit.young.cursor, i.fit.young.lens)

    pub list-room : (r m : ℕ) → 3 * (r + 2 * h.size.n) ≤ m → 3 * (r + 2 * length (lens_at l w)) ≤ m
    list-room r m f = rw lens-long f

  -- the members that the list holds
  module _ (i : Image w (decode w)) (roots ms list : List ℕ) (r : ℕ) {m : ℕ}
      (traced : (y : Nursery) → y.lens ≡ lens_at l w → y.cells ≡ cells_in (cells_at l w) → members r list ≡ young_members y (cells_in roots) ms)
      (room : 3 * (length roots / 3 + 2 * (decode w).size.n) ≤ m) (kept : length list ≡ m) where
    members-are : (h : Heap) → Image w h → members r list ≡ young_members h.young (cells_in roots) ms
    members-are h j = traced h.young (sym (lens-are j)) (cells-in j)

    pub listed : Listed (cells_in roots) ms w r list
    listed =
        let y : Nursery = (decode w).young in
        let few = young-few y (cells_in roots) ms (i.fit.young.lens ∙ sym i.fit.young.cells) in
        record { are = members-are; fits = omega (arith, few, length-members r list, ap length (members-are _ i), in-length roots, i.fit.young.cells) }

  -- question 6
  pub allocated-read : (ps : List Ptr) {r : Bool} → ((y : Nursery) → y.lens ≡ lens_at l w → r ≡ all_allocated y ps) → Reads (λ h. all_allocated h.young ps) w r
  allocated-read ps f = record { reads = λ h i. sym (f h.young (sym (lens-are i))) }

-- the words of some of the cells

words_take : (n : ℕ) (cs : List Cell) → take (3 * n) (cell_words cs) ≡ cell_words (take n cs)
unfolding cell_words
words_take zero cs = refl
words_take (suc n) [] = let e : 3 * suc n ≡ suc (3 * n + 2) = omega arith in rw e
words_take (suc n) (c ∷ cs) = let e : 3 * suc n ≡ suc (suc (suc (3 * n))) = omega arith in rw (e, words-cons c cs, words-cons c (take n cs), words_take n cs)

words-drop : (b : ℕ) (cs : List Cell) → drop (3 * b) (cell_words cs) ≡ cell_words (drop b cs)
unfolding cell_words
words-drop zero cs = refl
words-drop (suc b) [] = let e : 3 * suc b ≡ suc (3 * b + 2) = omega arith in rw e
words-drop (suc b) (c ∷ cs) = let e : 3 * suc b ≡ suc (suc (suc (3 * b))) = omega arith in rw (e, words-cons c cs) (words-drop b cs)

pub promoted-words : (y : Nursery) (b : ℕ) → take (3 * get_or y.lens b 0) (drop (3 * b) (cell_words y.cells)) ≡ cell_words (part y b)
unfolding part
promoted-words y b = rw (words-drop b y.cells, words_take (get_or y.lens b 0) (drop b y.cells))
