-- The regions of an image as parts of its words.
use mathlib.Core.Path.{◌≡◌, refl, sym, ap, ◌∙◌}
use mathlib.Core.Bool.{Bool, ◌&&◌}
use mathlib.Core.List.{List, [], ◌∷◌}
use Prim.Native.Nat.{ℕ, ◌+◌, ◌-◌, ◌*◌, ◌≤◌, min}
use native.Mathlib.Nat.{mul_comm}
use native.Mathlib.Omega.{arith}
use lib.ListN.{length, get_or, take, drop, length-drop, length-take}
use lib.Seq.{drop-drop}
use Rattle.model.specs.Lists.{sum}
use Rattle.model.specs.Barrier.{cache}
use Rattle.model.specs.Image.{sizes_of, regions, packed_cells, formed}
use Rattle.theorems.proofs.Regions.{words-taken}
use Rattle.image.specs.Places.{size_n, size_s, young_counts_at, old_counts_at, lengths_at, slot_lengths_at, young_cells_at}
use Rattle.image.specs.Conditions.{counters_good, barriers_good, young_good, old_good}
use Rattle.image.specs.Laid.{Laid}
use Rattle.image.specs.declared.places.Layout.{Layout}
use Rattle.image.proofs.Offsets.{slot-lengths, elder-cells}
use Rattle.image.proofs.Packs.{and_assoc, packed-capped}

module _ (w : List ℕ) where
  pub young-counts : (regions w).young_counts ≡ take 256 (drop young_counts_at w)
  unfolding regions cache
  young-counts = refl

  old-from : drop cache (drop 10 w) ≡ drop old_counts_at w
  unfolding cache
  old-from = drop-drop cache young_counts_at w

  pub old-counts : (regions w).old_counts ≡ take 256 (drop old_counts_at w)
  unfolding regions cache
  old-counts = ap (take cache) old-from

  lengths-from : drop cache (drop cache (drop 10 w)) ≡ drop lengths_at w
  unfolding cache
  lengths-from = ap (drop cache) old-from ∙ drop-drop cache old_counts_at w

  pub lengths : (regions w).lens ≡ take (size_n w) (drop lengths_at w)
  unfolding regions
  lengths = ap (take (size_n w)) lengths-from

  slots-from : drop (size_n w) (drop cache (drop cache (drop 10 w))) ≡ drop (slot_lengths_at (size_n w)) w
  slots-from = ap (drop (size_n w)) lengths-from ∙ drop-drop (size_n w) lengths_at w

  young-from : drop (size_s w) (drop (size_n w) (drop cache (drop cache (drop 10 w)))) ≡ drop (young_cells_at (size_n w) (size_s w)) w
  young-from = ap (drop (size_s w)) slots-from ∙ drop-drop (size_s w) (slot_lengths_at (size_n w)) w

  pub young-cells : (regions w).young_cells ≡ take (3 * size_n w) (drop (young_cells_at (size_n w) (size_s w)) w)
  unfolding regions
  young-cells = rw (mul_comm (size_n w) 3) (ap (take (3 * size_n w)) young-from)

  -- as the code takes them, from its own numbers

  pub counters-part : 8 ≤ length w → take 3 (drop 5 w) ≡ get_or w 5 0 ∷ get_or w 6 0 ∷ get_or w 7 0 ∷ []
  counters-part h = sym (words-taken 5 3 w h)

  -- the elder's lengths, their sum k up to C + 1, and its cells
  pub old-done : {r : Bool} {l : Layout} {lens cells : List ℕ} {k : ℕ} → Laid w l → lens ≡ take (l.young - l.slots) (drop l.slots w) → cells ≡ take (length w - l.old) (drop l.old w)
      → k ≡ min (sum lens) (l.c + 1) → r ≡ packed_cells k cells → r ≡ old_good w
  unfolding old_good
  old-done {l = l} p e f g q =
      let long : length (regions w).old_cells ≡ 3 * l.c =
      omega (arith, ap length (elder-cells p), length-take (length w - l.old) (drop l.old w), length-drop l.old w, p.end) in
      q ∙ rw (g, e, f, slot-lengths p, elder-cells p) (packed-capped (sum (regions w).slot_lens) (regions w).old_cells l.c long)

-- question 2, in the groups in which its conditions are tested
pub formed-is : (w : List ℕ) → formed w ≡ (counters_good w && barriers_good w && young_good w && old_good w)
unfolding formed sizes_of counters_good barriers_good young_good old_good
formed-is w = simp and_assoc
