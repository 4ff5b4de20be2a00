-- The parts of scratch, and what stands in them.
use Rattle.std.specs.Prelude.{◌≡◌, true, Result, List, ℕ, ◌+◌, ◌*◌, ◌/◌, ◌≤◌, ◌<◌, length, get_or, take, drop}
use Rattle.model.specs.Records.{Cell, whole_cells}
use Rattle.model.specs.Barrier.{absent, masks}
use Rattle.model.specs.Heap.{Nursery, Sizes, part}
use Rattle.model.specs.Image.{image_length, decode}
use Rattle.model.specs.Calls.{cells_in}
use Rattle.theorems.specs.Does.{Does}
use Rattle.image.specs.Places.{lengths_at, young_cells_at}
use Rattle.question.specs.Question.{number_answer}
use Rattle.question.specs.declared.Question.{Question}
use Rattle.elder.specs.Steps as elder
use Rattle.nursery.specs.Steps.{collected_answer}
use Rattle.nursery.specs.Steps as nursery
use Rattle.nursery.specs.declared.Collected.{Collected}
use Rattle.cycle.specs.declared.scratch.Parts.{Parts}

-- the image, three words for each of r + 2N young members, a new base for each, the elder's members

abbrev pub bases_at : Sizes → ℕ → ℕ
bases_at z r = image_length z + 3 * (r + 2 * z.n)

abbrev pub old_list_at : Sizes → ℕ → ℕ
old_list_at z r = image_length z + 4 * (r + 2 * z.n)

pub record PartsOf (z : Sizes) (r : ℕ) (p : Parts) : Type 0 where
  pub members : p.members ≡ image_length z
  pub bases : p.bases ≡ bases_at z r
  pub elder : p.elder ≡ old_list_at z r

-- The nursery that is saved in front: its lengths and cells stand where an image has them. A move needs no more of it.

unfoldable pub young_in : Sizes → List ℕ → Nursery
young_in z s = record { cursor = 0; colls = 0; proms = 0; bar = absent; lens = take z.n (drop lengths_at s); cells = cells_in (take (3 * z.n) (drop (young_cells_at z.n z.s) s)) }

unfoldable pub parts_in : Sizes → List ℕ → ℕ → List Cell
parts_in z s = part (young_in z s)

pub record Saved (z : Sizes) (s : List ℕ) : Type 0 where
  pub long : image_length z ≤ length s
  pub whole : whole_cells (take (3 * z.n) (drop (young_cells_at z.n z.s) s)) ≡ true
  pub inside : (b : ℕ) → 0 < get_or (young_in z s).lens b 0 → b + get_or (young_in z s).lens b 0 ≤ z.n

-- the first k words stay
pub record Front (k : ℕ) (s s' : List ℕ) : Type 0 where
  pub same : take k s' ≡ take k s

-- a collection of the elder writes behind the other parts
pub record SweptIn (w roots masks s : List ℕ) (r : Result ℕ Question) (v s' : List ℕ) : Type 0 where
  pub does : Does (elder.collect_step (cells_in roots) masks) w (number_answer r) v
  pub front : Front (old_list_at (decode w).size (length roots / 3)) s s'

-- a collection of the nursery writes behind the image; the masks are those of this moment
pub record CollectedIn (w roots s : List ℕ) (r : Result Collected Question) (v s' : List ℕ) : Type 0 where
  pub does : Does (λ h. nursery.collect_step (cells_in roots) (masks h.old.bar) h) w (collected_answer r (drop (image_length (decode w).size) s')) v
  pub front : Front (image_length (decode w).size) s s'
