-- What a member leads to, for either heap.
use Rattle.std.specs.Prelude.{List, ℕ, zero, suc, ◌+◌, ◌*◌, ◌<◌, ◌≤◌, length, get_or, take, drop}
use Rattle.model.specs.Lists.{sum}
use Rattle.model.specs.Records.{Ptr, cells_of, pointers_to}

-- the cell at which allocation b begins: in the nursery cell b; the elder's allocations stand packed, in order
unfoldable pub begins_at : ℕ → List ℕ → ℕ → ℕ
begins_at zero lens b = b
begins_at (suc own) lens b = sum (take b lens)

-- the own-heap pointers of the allocation at the member's base, whichever the member's heap
unfoldable pub leads_to : ℕ → List ℕ → List ℕ → Ptr → List Ptr
leads_to own lens cells p = pointers_to own (cells_of (get_or lens p.base 0) (drop (3 * begins_at own lens p.base) cells))

-- every allocation lies within the words of the cells
pub record Inside (own : ℕ) (lens cells : List ℕ) : Type 0 where
  pub fits : (b : ℕ) → 0 < get_or lens b 0 → 3 * (begins_at own lens b + get_or lens b 0) ≤ length cells
