-- A trace of either heap, 0 the nursery and 1 the elder: what it asks of the words that it is lent, and what it lists.
use native.Mathlib.Nat.{ℕ_set}
use Rattle.std.specs.Coded.{×_prop, Π_prop, →_prop, le_prop}
use Rattle.std.specs.Prelude.{◌≡◌, List, ℕ, zero, suc, ◌+◌, ◌*◌, ◌<◌, ◌≤◌, length, get_or}
use Rattle.model.specs.Lists.{sum}
use Rattle.model.specs.Records.{Ptr, Cell, cells_of}
use Rattle.model.specs.Heap.{Nursery, Elder}
use Rattle.model.specs.Image.{cut}
use Rattle.model.specs.Nursery.{young_members}
use Rattle.model.specs.Elder.{old_members}
use Rattle.model.specs.Calls.{cells_in}

-- the allocations lie within the cells: the nursery has a cell for each length, the elder's allocations stand packed
abbrev pub Within : ℕ → List ℕ → List ℕ → Type 0
Within zero lens cells = (length cells ≡ 3 * length lens) × ((b : ℕ) → 0 < get_or lens b 0 → b + get_or lens b 0 ≤ length lens)
Within (suc own) lens cells = sum lens * 3 ≤ length cells

pub Within-prop : (own : ℕ) (lens cells : List ℕ) → IsProp (Within own lens cells)
Within-prop zero lens cells = ×_prop (ℕ_set _ _) (Π_prop (λ b. →_prop le_prop))
Within-prop (suc own) lens cells = le_prop

-- how many members may come from masks and cells
abbrev pub most_members : ℕ → List ℕ → ℕ
most_members zero lens = 2 * length lens
most_members (suc own) lens = length lens + sum lens

-- these are the members of every such generation
abbrev pub Traced : ℕ → List ℕ → List ℕ → List Cell → List ℕ → List Ptr → Type 0
Traced zero lens cells roots ms ps = (y : Nursery) → y.lens ≡ lens → y.cells ≡ cells_in cells → ps ≡ young_members y roots ms
Traced (suc own) lens cells roots ms ps = (e : Elder) → e.slots ≡ cut lens (cells_of (sum lens) cells) → ps ≡ old_members e roots ms
