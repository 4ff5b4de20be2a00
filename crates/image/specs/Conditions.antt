-- The conditions of question 2, in the groups in which they are tested.
use Rattle.std.specs.Prelude.{Bool, ◌&&◌, List, [], ◌∷◌, ℕ, get_or}
use Rattle.model.specs.Lists.{sum, all_at_most}
use Rattle.model.specs.Records.{whole_cells}
use Rattle.model.specs.Barrier.{most}
use Rattle.model.specs.Image.{regions, cursor_in, flagged, tiles, packed_cells}

unfoldable pub counters_good : List ℕ → Bool
counters_good w = cursor_in (get_or w 4 0) (get_or w 0 0) && all_at_most most (get_or w 5 0 ∷ get_or w 6 0 ∷ get_or w 7 0 ∷ [])

unfoldable pub barriers_good : List ℕ → Bool
barriers_good w = flagged (get_or w 8 0) (regions w).young_counts && flagged (get_or w 9 0) (regions w).old_counts

unfoldable pub young_good : List ℕ → Bool
young_good w = tiles (get_or w 4 0) 0 (regions w).lens && whole_cells (regions w).young_cells

unfoldable pub old_good : List ℕ → Bool
old_good w = packed_cells (sum (regions w).slot_lens) (regions w).old_cells
