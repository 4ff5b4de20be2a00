-- The parts of an image: where they stand, what they are, and the whole with other words in the place of one.
use mathlib.Core.Path.{◌≡◌, refl, sym, ap, ◌∙◌}
use mathlib.Core.List.{List, [], ◌++◌}
use Prim.Native.Nat.{ℕ, ◌-◌, ◌<◌}
use native.Mathlib.Omega.{arith}
use lib.ListN.{length, get_or, take, drop, set, length-append, length-take}
use lib.Seq.{drop-drop}
use borrow.Rule.Slice.PartMut.{put_mid}
use Rattle.model.specs.Lists.{flat, sum}
use Rattle.model.specs.Records.{cell_words}
use Rattle.model.specs.Barrier.{cache, most, counts}
use Rattle.model.specs.Heap.{Sizes, Heap}
use Rattle.model.specs.Image.{sizes_of, encode, decode}
use Rattle.theorems.specs.Fit.{Image}
use Rattle.theorems.proofs.Image.{regions_of, fit-shape, image-decode, image-sized}
use Rattle.theorems.proofs.Parts.{start_of, part_at, part-put, header, parts_of, encode-parts}
use Rattle.image.specs.Places.{size_n, size_s, young_counts_at, old_counts_at, lengths_at, slot_lengths_at, young_cells_at, old_cells_at, Sized}
use Rattle.image.proofs.Bounds.{is-sized}
use Rattle.image.specs.Laid.{Laid}
use Rattle.image.specs.declared.places.Layout.{Layout}
use Rattle.fields.specs.Fields.{Reads}

pub cache-is : cache ≡ 256
unfolding cache
cache-is = refl

pub most-is : most ≡ 4294967295
unfolding most
most-is = refl

-- one of the sizes
module _ {w : List ℕ} {z : Sizes} (r : Reads (λ h. h.size) w z) where
  pub n-of : Reads (λ h. h.size.n) w z.n
  n-of = record { reads = λ h i. ap (λ (z : Sizes). z.n) (r.reads h i) }

  pub t-of : Reads (λ h. h.size.t) w z.t
  t-of = record { reads = λ h i. ap (λ (z : Sizes). z.t) (r.reads h i) }

-- a word of the header
pub word-is : {w : List ℕ} (k : ℕ) → Reads (λ h. get_or (encode h) k 0) w (get_or w k 0)
word-is k = record { reads = λ h i. ap (λ (l : List ℕ). get_or l k 0) (sym i.is) }

-- the k-th part has m words and begins at a
record Stands (h : Heap) (k a m : ℕ) : Type 0 where
  inside : k < length (parts_of h)
  from : a ≡ start_of (parts_of h) k
  size : m ≡ length (get_or (parts_of h) k [])

module _ {w : List ℕ} {h : Heap} (i : Image w h) where
  pub decoded : Image w (decode w)
  decoded = rw (image-decode i) i

  pub sized-in : Sized w
  sized-in = is-sized w (image-sized i).0

  pub header-in : (k : ℕ) → k < young_counts_at → k < length w
  header-in k small = omega (arith, sized-in.long)

  pub sizes-is : sizes_of w ≡ h.size
  unfolding encode sizes_of
  sizes-is = ap sizes_of i.is

  -- the regions stand where the sizes say
  module _ {l : Layout} (p : Laid w l) where
    pub lens-at : l.lens ≡ lengths_at
    unfolding sizes_of
    lens-at = omega (arith, p.n, p.s, p.c, p.slots, p.young, p.old, p.end, sized-in.long)

    pub slots-at : l.slots ≡ slot_lengths_at (size_n w)
    unfolding sizes_of
    slots-at = omega (arith, p.n, p.slots, lens-at)

    pub young-at : l.young ≡ young_cells_at (size_n w) (size_s w)
    unfolding sizes_of
    young-at = omega (arith, p.s, p.young, slots-at)

    pub old-at : l.old ≡ old_cells_at (size_n w) (size_s w)
    unfolding sizes_of
    old-at = omega (arith, p.n, p.old, young-at)

  -- the header is still there when a part behind it came back
  pub header-kept : {l : Layout} → Laid w l → (k m : ℕ) (ys : List ℕ) → k < young_counts_at → k < length (put_mid l.lens m w ys)
  header-kept {l} p k m ys small = let a = l.lens in let e = lens-at p in omega (arith, length-append (take a w) (ys ++ drop m (drop a w)), length-take a w, sized-in.long)

  pub n-is : size_n w ≡ h.size.n
  unfolding encode
  n-is = ap (λ (l : List ℕ). get_or l 0 0) i.is

  s-is : size_s w ≡ h.size.s
  unfolding encode
  s-is = ap (λ (l : List ℕ). get_or l 2 0) i.is

  pub n-read : {n : ℕ} → Reads (λ h. h.size.n) w n → n ≡ size_n w
  n-read r = sym (n-is ∙ r.reads h i)

  pub s_read : {s : ℕ} → Reads (λ h. h.size.s) w s → s ≡ size_s w
  s_read r = sym (s-is ∙ r.reads h i)

  young-counts-stand : Stands h 1 young_counts_at 256
  unfolding parts_of header sum regions_of
  young-counts-stand = let f = fit-shape h i.fit in record { inside = omega arith; from = refl; size = omega (arith, f.young_counts, cache-is) }

  old-counts-stand : Stands h 2 old_counts_at 256
  unfolding parts_of header sum regions_of
  old-counts-stand = let f = fit-shape h i.fit in record { inside = omega arith; from = omega (arith, f.young_counts, cache-is); size = omega (arith, f.old_counts, cache-is) }

  lengths-stand : (to : ℕ) → to ≡ slot_lengths_at (size_n w) → Stands h 3 lengths_at (to - lengths_at)
  unfolding parts_of header sum regions_of
  lengths-stand to e =
      let f = fit-shape h i.fit in
      record { inside = omega arith; from = omega (arith, f.young_counts, f.old_counts, cache-is); size = omega (arith, f.lens, n-is) }

  young-cells-stand : {l : Layout} → Laid w l → Stands h 5 l.young (l.old - l.young)
  unfolding parts_of header sum regions_of
  young-cells-stand p =
      let f = fit-shape h i.fit in
      record {
        inside = omega arith;
        from = omega (arith, f.young_counts, f.old_counts, f.lens, f.slot_lens, cache-is, n-is, s-is, young-at p);
        size = omega (arith, f.young_cells, n-is, young-at p, old-at p);
      }

  module _ {k a m : ℕ} (s : Stands h k a m) where
    part-is : take m (drop a w) ≡ get_or (parts_of h) k []
    part-is = rw (i.is, encode-parts, s.from, s.size) (part_at (parts_of h) k s.inside)

    put_is : (ys : List ℕ) → put_mid a m w ys ≡ flat (set (parts_of h) k ys)
    put_is ys = rw (drop-drop m a w, i.is, encode-parts, s.from, s.size) (part-put (parts_of h) k ys s.inside)

  pub young-counts : take 256 (drop young_counts_at w) ≡ counts h.young.bar
  unfolding parts_of
  young-counts = part-is young-counts-stand

  pub old-counts : take 256 (drop old_counts_at w) ≡ counts h.old.bar
  unfolding parts_of
  old-counts = part-is old-counts-stand

  pub lengths : (to : ℕ) → to ≡ slot_lengths_at (size_n w) → take (to - lengths_at) (drop lengths_at w) ≡ h.young.lens
  unfolding parts_of
  lengths to e = part-is (lengths-stand to e)

  pub young-cells : {l : Layout} → Laid w l → take (l.old - l.young) (drop l.young w) ≡ cell_words h.young.cells
  unfolding parts_of
  young-cells p = part-is (young-cells-stand p)

  -- and the whole with other words there
  module _ (ys : List ℕ) where
    pub young-counts-put : put_mid young_counts_at 256 w ys ≡ flat (set (parts_of h) 1 ys)
    young-counts-put = put_is young-counts-stand ys

    pub old-counts-put : put_mid old_counts_at 256 w ys ≡ flat (set (parts_of h) 2 ys)
    old-counts-put = put_is old-counts-stand ys

    pub lengths-put : (to : ℕ) → to ≡ slot_lengths_at (size_n w) → put_mid lengths_at (to - lengths_at) w ys ≡ flat (set (parts_of h) 3 ys)
    lengths-put to e = put_is (lengths-stand to e) ys

    pub young-cells-put : {l : Layout} → Laid w l → put_mid l.young (l.old - l.young) w ys ≡ flat (set (parts_of h) 5 ys)
    young-cells-put p = put_is (young-cells-stand p) ys

-- what an image says of its length
pub ruleset in_image = (sized-in, header-in)
