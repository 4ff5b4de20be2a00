-- What the saved words in front of scratch have of the image.
use mathlib.Core.Path.{◌≡◌, refl, sym, ap, ◌∙◌}
use mathlib.Core.List.{List, [], ◌∷◌}
use Prim.Native.Nat.{ℕ, zero, suc, ◌+◌, ◌*◌, ◌≤◌}
use native.Mathlib.Omega.{arith}
use lib.ListN.{length, get_or, take, drop}
use lib.Seq.{take-take}
use Rattle.model.specs.Heap.{Sizes, part}
use Rattle.model.specs.Image.{image_length, sizes_of, regions, decode}
use Rattle.model.specs.Calls.{cells_in}
use Rattle.theorems.specs.Fit.{Image}
use Rattle.theorems.proofs.Cells.{in-of}
use Rattle.theorems.proofs.Regions.{regions-shape}
use Rattle.theorems.proofs.Image.{sized-says, formed-says, image-sized}
use Rattle.theorems.proofs.Tiles.{cursor-le, allocation-inside}
use Rattle.words.specs.Words.{padded}
use Rattle.image.specs.Places.{lengths_at, young_cells_at, old_cells_at}
use Rattle.image.proofs.Parts.{lengths, young-cells}
use Rattle.cycle.specs.Scratch.{young_in, parts_in, Saved}
use Rattle.collector.specs.Saving.{SavedTo}

-- words that stand within the first k
within : (j m k : ℕ) (l : List ℕ) → j + m ≤ k → take m (drop j (take k l)) ≡ take m (drop j l)
within zero m k l h = take-take m k l (omega arith)
within (suc j) m zero l h = absurd (omega arith)
within (suc j) m (suc k) [] h = refl
within (suc j) m (suc k) (x ∷ l) h = within j m k l (omega arith)

module _ {w s : List ℕ} {k : ℕ} (i : Image w (decode w)) (f : SavedTo w k s) where
  abbrev z : Sizes
  z = (decode w).size

  long : length w ≡ image_length z
  unfolding decode
  long = (sized-says w (image-sized i).0).1

  same-words : (j m : ℕ) → j + m ≤ old_cells_at z.n z.s → take m (drop j s) ≡ take m (drop j w)
  same-words j m h = sym (within j m k s (omega (arith, f.reaches))) ∙ ap (λ (l : List ℕ). take m (drop j l)) f.front ∙ within j m k w (omega (arith, f.reaches))

  lengths-there : take z.n (drop lengths_at s) ≡ (regions w).lens
  unfolding decode sizes_of
  lengths-there = same-words lengths_at z.n (omega arith) ∙ sym (lengths w)

  cells-there : take (3 * z.n) (drop (young_cells_at z.n z.s) s) ≡ (regions w).young_cells
  unfolding decode sizes_of
  cells-there = same-words (young_cells_at z.n z.s) (3 * z.n) (omega arith) ∙ sym (young-cells w)

  -- the saved nursery's allocations are the image's

  pub saved-lens : (young_in z s).lens ≡ (decode w).young.lens
  unfolding young_in decode
  saved-lens = lengths-there

  saved-cells : (young_in z s).cells ≡ (decode w).young.cells
  unfolding young_in decode
  saved-cells = ap cells_in cells-there ∙ in-of z.n (regions w).young_cells (regions-shape w long).young_cells

  pub saved-parts : (b : ℕ) → parts_in z s b ≡ part (decode w).young b
  unfolding parts_in part
  saved-parts b = λ t. take (get_or (saved-lens t) b 0) (drop b (saved-cells t))

  pub saved-is : image_length z ≤ length s → Saved z s
  saved-is h = record {
    long = h;
    whole = rw cells-there (formed-says w (image-sized i).1).young_cells;
    inside = rw saved-lens (λ b l. omega (arith, allocation-inside (decode w).young.cursor (decode w).young.lens b i.fit.young.tiled l, cursor-le (decode w).young.cursor z.n i.fit.young.cursor));
  }

  -- the image put back from scratch, whose front has not changed
  pub put_back : (s' : List ℕ) → take (image_length z) s' ≡ take (image_length z) s → padded (take k s') (length w) ≡ w
  put_back s' e =
      let n : ℕ = image_length z in
      let same : take k s' ≡ take k w = sym (take-take k n s' (omega (arith, f.inside, long))) ∙ ap (take k) e ∙ take-take k n s (omega (arith, f.inside, long)) ∙ f.front in
      rw same f.rest
