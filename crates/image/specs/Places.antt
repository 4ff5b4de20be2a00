-- Where the parts of an image begin, and what is known of one that passes question 1.
use Rattle.std.specs.Prelude.{◌≡◌, List, ℕ, ◌+◌, ◌*◌, ◌≤◌, length, get_or}
use Rattle.model.specs.Heap.{Sizes}
use Rattle.image.specs.declared.sizes.Sizes.{Sizes as Given}

abbrev pub sizes : ℕ → ℕ → ℕ → ℕ → Sizes
sizes n t s c = record { n = n; t = t; s = s; c = c }

abbrev pub model_sizes : Given → Sizes
model_sizes z = sizes z.n z.t z.s z.c

abbrev pub size_n : List ℕ → ℕ
size_n w = get_or w 0 0

abbrev pub size_s : List ℕ → ℕ
size_s w = get_or w 2 0

abbrev pub size_c : List ℕ → ℕ
size_c w = get_or w 3 0

-- the six regions, for n and s, and the end

abbrev pub young_counts_at : ℕ
young_counts_at = 10

abbrev pub old_counts_at : ℕ
old_counts_at = young_counts_at + 256

abbrev pub lengths_at : ℕ
lengths_at = old_counts_at + 256

abbrev pub slot_lengths_at : ℕ → ℕ
slot_lengths_at n = lengths_at + n

abbrev pub young_cells_at : ℕ → ℕ → ℕ
young_cells_at n s = slot_lengths_at n + s

abbrev pub old_cells_at : ℕ → ℕ → ℕ
old_cells_at n s = young_cells_at n s + 3 * n

abbrev pub image_end : ℕ → ℕ → ℕ → ℕ
image_end n s c = old_cells_at n s + 3 * c

-- question 1 in numbers

pub record Bounded (z : Sizes) : Type 0 where
  pub n : z.n ≤ 2048
  pub t : z.t ≤ 8192
  pub s : z.s ≤ 8192
  pub c : z.c ≤ 65536

pub record Sized (w : List ℕ) : Type 0 where
  pub bounds : Bounded (sizes (size_n w) (get_or w 1 0) (size_s w) (size_c w))
  pub long : length w ≡ image_end (size_n w) (size_s w) (size_c w)
