-- The places that `layout_of` hands out are those of the image's regions.
use mathlib.Core.Path.{◌≡◌, refl}
use mathlib.Core.List.{List}
use Prim.Native.Nat.{ℕ, ◌+◌, ◌-◌, ◌*◌}
use native.Mathlib.Omega.{arith}
use lib.ListN.{length, get_or, take, drop, length-drop}
use lib.Seq.{drop-drop, take_all}
use Rattle.model.specs.Barrier.{cache}
use Rattle.model.specs.Heap.{Sizes}
use Rattle.model.specs.Image.{sizes_of, regions}
use Rattle.image.specs.Places.{slot_lengths_at, young_cells_at, old_cells_at, Sized}
use Rattle.image.specs.Laid.{regions_at, Laid}
use Rattle.image.specs.declared.places.Layout.{Layout}

abbrev places : List ℕ → Layout
places w =
    let n = get_or w 0 0 in
    let s = get_or w 2 0 in
    record { n = n; s = s; c = get_or w 3 0; counts = 10; lens = 522; slots = slot_lengths_at n; young = young_cells_at n s; old = old_cells_at n s }

cache-is : cache ≡ 256
unfolding cache
cache-is = refl

regions-at : (w : List ℕ) → regions w ≡ regions_at (places w) w
unfolding regions regions_at
regions-at w =
    let n : ℕ = get_or w 0 0 in
    let s : ℕ = get_or w 2 0 in
    let lens : 10 + cache + cache ≡ 522 = omega (arith, cache-is) in
    let slots : 10 + cache + cache + n ≡ 522 + n = omega arith in
    let young : 10 + cache + cache + n + s ≡ 522 + n + s = omega arith in
    let old : 10 + cache + cache + n + s + n * 3 ≡ 522 + n + s + 3 * n = omega arith in
    simp drop-drop λ i. record {
      young_counts = take cache (drop 10 w);
      old_counts = take cache (drop (10 + cache) w);
      lens = take n (drop (lens i) w);
      slot_lens = take s (drop (slots i) w);
      young_cells = take (n * 3) (drop (young i) w);
      old_cells = drop (old i) w;
    }

module _ (w : List ℕ) (e : Sized w) where
  laid : Laid w (places w)
  unfolding sizes_of
  laid = record { n = refl; s = refl; c = refl; slots = refl; young = refl; old = omega arith; end = omega (arith, e.long); parts = regions-at w }

  -- at the places that follow from the sizes in it
  pub laid-at : (z : Sizes) (a b o : ℕ) → z ≡ sizes_of w → a ≡ slot_lengths_at z.n → b ≡ young_cells_at z.n z.s → o ≡ old_cells_at z.n z.s
      → Laid w (record { n = z.n; s = z.s; c = z.c; counts = 10; lens = 522; slots = a; young = b; old = o })
  unfolding sizes_of
  laid-at z a b o f p q r = rw (p, q, r, f) laid

-- the regions as parts that the code cuts
module _ {w : List ℕ} {l : Layout} (p : Laid w l) where
  pub young-lengths : take (l.slots - l.lens) (drop l.lens w) ≡ (regions w).lens
  unfolding regions_at
  young-lengths = let e : l.slots - l.lens ≡ l.n = omega (arith, p.slots) in rw (e, p.parts)

  pub slot-lengths : take (l.young - l.slots) (drop l.slots w) ≡ (regions w).slot_lens
  unfolding regions_at
  slot-lengths = let e : l.young - l.slots ≡ l.s = omega (arith, p.young) in rw (e, p.parts)

  pub young-cells : take (l.old - l.young) (drop l.young w) ≡ (regions w).young_cells
  unfolding regions_at
  young-cells = let e : l.old - l.young ≡ l.n * 3 = omega (arith, p.old) in rw (e, p.parts)

  pub elder-cells : take (length w - l.old) (drop l.old w) ≡ (regions w).old_cells
  unfolding regions_at
  elder-cells = rw p.parts (take_all (length w - l.old) (drop l.old w) (omega (arith, length-drop l.old w)))
