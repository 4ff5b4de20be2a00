-- An image saved in front of scratch.
use Rattle.std.specs.Prelude.{◌≡◌, List, ℕ, ◌≤◌, length, take}
use Rattle.model.specs.Image.{decode}
use Rattle.image.specs.Places.{old_cells_at}
use Rattle.words.specs.Words.{padded}

-- the first k words of the image, which reach to the elder's cells at least; the others are zero
pub record SavedTo (w : List ℕ) (k : ℕ) (s : List ℕ) : Type 0 where
  pub front : take k s ≡ take k w
  pub rest : padded (take k w) (length w) ≡ w
  pub reaches : old_cells_at (decode w).size.n (decode w).size.s ≤ k
  pub inside : k ≤ length w
