-- A heap that fits is read back from its image; words that are sized and formed are the image of a heap that fits.
use mathlib.Core.Path.{◌≡◌, refl, sym, ap, ap₂, ◌∙◌}
use mathlib.Core.Bool.{true, ◌&&◌}
use mathlib.Core.Logic.{◌↔◌}
use mathlib.Core.List.{List, [], ◌∷◌, ◌++◌, map}
use Prim.Native.Nat.{ℕ, zero, suc, ◌-◌, ◌*◌, ◌≤◌, zero-le}
use native.Mathlib.Omega.{arith}
use lib.Dec.{leb}
use lib.ListN.{length, get_or, take, replicate, length-append, length-replicate, length-map, take-append-drop}
use Rattle.model.specs.Lists.{flat, sum, all_at_most}
use Rattle.model.specs.Records.{blank, all_valid, cell_words, cells_of, whole_cells}
use Rattle.model.specs.Barrier.{most, counts}
use Rattle.model.specs.Heap.{Sizes, in_bounds, Heap, fresh, in_use}
use Rattle.model.specs.Image.{Regions, image_length, sizes_of, regions, flag, encode, decode, sized, cursor_in, tiles, flagged, packed_cells, formed}
use Rattle.model.specs.Calls.{cells_in}
use Rattle.theorems.specs.Fit.{Fit, Image}
use borrow.Author.Tests.{eqb-true, lt-ltb, leb-true, le-leb}
use Rattle.theorems.proofs.Lists.{and_right, and_parts, eqb_same, flat-empty}
use Rattle.theorems.proofs.Barrier.{absent-fit}
use Rattle.theorems.proofs.Tiles.{zeros-tiled}
use Rattle.theorems.proofs.Cells.{words-length, cells_of-length, valid-blanks, whole_words, words-in, in-of, whole_back, whole-valid, packed-words}
use Rattle.theorems.proofs.Regions.{barrier-back, flag-back, counts-back, fit-flagged, flagged-fit, lengths-sum, cut-length, slots_in, slots-back, slots-lengths, slots-valid, slots-room, slots-words, words-taken, joined, Shape, joined_length, joined-regions, regions-shape, regions-joined}

-- what questions 1 and 2 ask, one by one

pub sized-says : (w : List ℕ) → sized w ≡ true → (in_bounds (sizes_of w) ≡ true) × (length w ≡ image_length (sizes_of w))
unfolding sized
sized-says w e =
    let (e₂, long) = and_parts _ _ e in
    (and_right (leb 4 (length w)) (in_bounds (sizes_of w)) e₂, eqb-true _ _ long)

pub record Formed (w : List ℕ) : Type 0 where
  pub cursor : cursor_in (get_or w 4 0) (get_or w 0 0) ≡ true
  pub young_colls : get_or w 5 0 ≤ most
  pub proms : get_or w 6 0 ≤ most
  pub old_colls : get_or w 7 0 ≤ most
  pub young_bar : flagged (get_or w 8 0) (regions w).young_counts ≡ true
  pub old_bar : flagged (get_or w 9 0) (regions w).old_counts ≡ true
  pub tiled : tiles (get_or w 4 0) 0 (regions w).lens ≡ true
  pub young_cells : whole_cells (regions w).young_cells ≡ true
  pub old_cells : packed_cells (sum (regions w).slot_lens) (regions w).old_cells ≡ true

pub formed-says : (w : List ℕ) → formed w ≡ true → Formed w
unfolding formed sizes_of all_at_most
formed-says w e =
    let (e₆, old_cells) = and_parts _ _ e in
    let (e₅, young_cells) = and_parts _ _ e₆ in
    let (e₄, tiled) = and_parts _ _ e₅ in
    let (e₃, old_bar) = and_parts _ _ e₄ in
    let (e₂, young_bar) = and_parts _ _ e₃ in
    let (cursor, bounds) = and_parts _ _ e₂ in
    let (young_colls, b₁) = and_parts _ _ bounds in
    let (proms, b₂) = and_parts _ _ b₁ in
    let (old_colls, b₃) = and_parts _ _ b₂ in
    record {
      cursor = cursor;
      young_colls = leb-true _ _ young_colls;
      proms = leb-true _ _ proms;
      old_colls = leb-true _ _ old_colls;
      young_bar = young_bar;
      old_bar = old_bar;
      tiled = tiled;
      young_cells = young_cells;
      old_cells = old_cells;
    }

pub says-formed : (w : List ℕ) → Formed w → formed w ≡ true
unfolding formed sizes_of all_at_most
says-formed w f =
    rw (f.cursor, le-leb _ _ f.young_colls, le-leb _ _ f.proms, le-leb _ _ f.old_colls, f.young_bar, f.old_bar, f.tiled, f.young_cells, f.old_cells)

-- there: an image is its ten words, then its regions

header : Heap → List ℕ
header h =
    let z = h.size in
    let y = h.young in
    let e = h.old in
    z.n ∷ z.t ∷ z.s ∷ z.c ∷ y.cursor ∷ y.colls ∷ y.proms ∷ e.colls ∷ flag y.bar ∷ flag e.bar ∷ []

unfoldable pub regions_of : Heap → Regions
regions_of h = record {
  young_counts = counts h.young.bar;
  old_counts = counts h.old.bar;
  lens = h.young.lens;
  slot_lens = map length h.old.slots;
  young_cells = cell_words h.young.cells;
  old_cells = cell_words (flat h.old.slots) ++ replicate ((h.size.c - in_use h.old.slots) * 3) 0;
}

encode-parts : (h : Heap) → encode h ≡ header h ++ joined (regions_of h)
unfolding encode header joined regions_of
encode-parts h = refl

pub fit-shape : (h : Heap) → Fit h → Shape h.size (regions_of h)
unfolding regions_of in_use
fit-shape h g = record {
  young_counts = g.young.bar.size;
  old_counts = g.old.bar.size;
  lens = g.young.lens;
  slot_lens = length-map h.old.slots length ∙ g.old.slots;
  young_cells = words-length h.young.cells ∙ ap (λ (k : ℕ). k * 3) g.young.cells;
  old_cells = let room = g.old.room in simp (length-append, words-length, length-replicate) (omega arith);
}

encode-sizes : (h : Heap) → sizes_of (encode h) ≡ h.size
unfolding sizes_of encode
encode-sizes h = refl

pub encode-regions : (h : Heap) → Fit h → regions (encode h) ≡ regions_of h
unfolding encode regions_of joined sizes_of
encode-regions h g = regions-joined (encode h) (regions_of h) (fit-shape h g) refl

pub encode-length : (h : Heap) → Fit h → length (encode h) ≡ image_length h.size
unfolding header
encode-length h g = rw encode-parts (omega (arith, joined_length h.size (regions_of h) (fit-shape h g)))

pub encode-sized : (h : Heap) → Fit h → sized (encode h) ≡ true
unfolding sized image_length
encode-sized h g =
    let long : 4 ≤ image_length h.size = omega arith in
    rw (encode-sizes, encode-length h g, g.sizes, eqb_same (image_length h.size), le-leb 4 (image_length h.size) long)

pub encode-formed : (h : Heap) → Fit h → formed (encode h) ≡ true
unfolding encode regions_of
encode-formed h g = says-formed (encode h) (record {
  cursor = g.young.cursor;
  young_colls = g.young.colls;
  proms = g.young.proms;
  old_colls = g.old.colls;
  young_bar = rw (encode-regions h g) (fit-flagged h.young.bar g.young.bar);
  old_bar = rw (encode-regions h g) (fit-flagged h.old.bar g.old.bar);
  tiled = rw (encode-regions h g) g.young.tiled;
  young_cells = rw (encode-regions h g) (whole_words h.young.cells g.young.valid);
  old_cells = rw (encode-regions h g, lengths-sum h.old.slots) (packed-words (flat h.old.slots) (h.size.c - in_use h.old.slots) g.old.valid);
})

pub decode-encode : (h : Heap) → Fit h → decode (encode h) ≡ h
unfolding decode encode sizes_of regions_of
decode-encode h g =
    let z = h.size in
    let y = h.young in
    let e = h.old in
    let cells : cells_of z.n (regions_of h).young_cells ≡ y.cells = rw (← in-of z.n (regions_of h).young_cells (fit-shape h g).young_cells) (words-in y.cells g.young.valid) in
    let slots : slots_in (regions_of h).slot_lens (regions_of h).old_cells ≡ e.slots = slots-back e.slots _ g.old.valid in
    rw (encode-regions h g) λ i. record {
      size = z;
      young = record { cursor = y.cursor; colls = y.colls; proms = y.proms; bar = barrier-back y.bar i; lens = y.lens; cells = cells i };
      old = record { colls = e.colls; bar = barrier-back e.bar i; slots = slots i };
    }

-- back: words that are sized and formed

young-in : (w : List ℕ) → length w ≡ image_length (sizes_of w) → cells_in (regions w).young_cells ≡ (decode w).young.cells
unfolding decode
young-in w long = in-of (sizes_of w).n (regions w).young_cells (regions-shape w long).young_cells

module _ (w : List ℕ) (long : length w ≡ image_length (sizes_of w)) (f : Formed w) where
  header-decode : header (decode w) ≡ take 10 w
  unfolding header decode sizes_of image_length
  header-decode = rw (flag-back (get_or w 8 0) _ f.young_bar, flag-back (get_or w 9 0) _ f.old_bar) (words-taken 0 10 w (omega arith))

  regions-decode : regions_of (decode w) ≡ regions w
  unfolding regions_of decode
  regions-decode =
      let s = regions-shape w long in
      let young_cells = rw (young-in w long) at (whole_back (regions w).young_cells f.young_cells) in
      λ i. record {
        young_counts = counts-back (get_or w 8 0) _ f.young_bar s.young_counts i;
        old_counts = counts-back (get_or w 9 0) _ f.old_bar s.old_counts i;
        lens = (regions w).lens;
        slot_lens = slots-lengths (regions w).slot_lens (regions w).old_cells i;
        young_cells = young_cells i;
        old_cells = slots-words (regions w).slot_lens (regions w).old_cells f.old_cells (sizes_of w).c s.old_cells i;
      }

pub encode-decode : (w : List ℕ) → sized w ≡ true → formed w ≡ true → encode (decode w) ≡ w
encode-decode w a b =
    let (bounds, long) = sized-says w a in
    let f = formed-says w b in
    encode-parts (decode w) ∙ ap₂ ◌++◌ (header-decode w long f) (ap joined (regions-decode w long f) ∙ joined-regions w) ∙ take-append-drop 10 w

pub decode-fit : (w : List ℕ) → sized w ≡ true → formed w ≡ true → Fit (decode w)
unfolding decode sizes_of
decode-fit w a b =
    let (bounds, long) = sized-says w a in
    let f = formed-says w b in
    let s = regions-shape w long in
    record {
      sizes = bounds;
      young = record {
        cursor = f.cursor;
        colls = f.young_colls;
        proms = f.proms;
        bar = flagged-fit _ _ f.young_bar s.young_counts;
        lens = s.lens;
        tiled = f.tiled;
        cells = cells_of-length _ _;
        valid = rw (young-in w long) at (whole-valid (regions w).young_cells f.young_cells);
      };
      old = record {
        colls = f.old_colls;
        bar = flagged-fit _ _ f.old_bar s.old_counts;
        slots = cut-length _ _ ∙ s.slot_lens;
        room = slots-room _ _ f.old_cells _ s.old_cells;
        valid = slots-valid _ _ f.old_cells;
      };
    }

pub formed-exactly : (w : List ℕ) → ((sized w && formed w) ≡ true) ↔ ((h : Heap) × Fit h × (w ≡ encode h))
formed-exactly w = (
  (λ e. let (a, b) = and_parts (sized w) (formed w) e in (decode w, decode-fit w a b, sym (encode-decode w a b))),
  (λ (h, g, e). rw (e, encode-sized h g, encode-formed h g)),
)

-- a fresh heap

cursor-start : (n : ℕ) → cursor_in 0 n ≡ true
unfolding cursor_in
cursor-start zero = refl
cursor-start (suc n) = rw (lt-ltb 0 (suc n) (omega arith))

pub fresh-fit : (z : Sizes) → in_bounds z ≡ true → Fit (fresh z)
unfolding fresh in_use all_valid
fresh-fit z b = record {
  sizes = b;
  young = record {
    cursor = cursor-start z.n;
    colls = zero-le;
    proms = zero-le;
    bar = absent-fit;
    lens = length-replicate z.n 0;
    tiled = zeros-tiled z.n;
    cells = length-replicate z.n blank;
    valid = valid-blanks z.n;
  };
  old = record { colls = zero-le; bar = absent-fit; slots = length-replicate z.s []; room = rw (flat-empty z.s) zero-le; valid = rw (flat-empty z.s) };
}

-- words that pass 1 and 2 are the image of the heap that they decode to, and of no other

pub image-of : (w : List ℕ) → sized w ≡ true → formed w ≡ true → Image w (decode w)
image-of w s f = record { is = sym (encode-decode w s f); fit = decode-fit w s f }

pub image-decode : {w : List ℕ} {h : Heap} → Image w h → decode w ≡ h
image-decode {w} {h} i = ap decode i.is ∙ decode-encode h i.fit

pub image-sized : {w : List ℕ} {h : Heap} → Image w h → (sized w ≡ true) × (formed w ≡ true)
image-sized {w} {h} i = rw i.is (encode-sized h i.fit, encode-formed h i.fit)
