-- The change of moved pointers on a heap, part by part.
use Rattle.std.specs.Prelude.{List, ◌++◌, map, ℕ, ◌/◌, min, length, get_or, take, drop}
use Rattle.model.specs.Res.{Res, ok, ◌>>=◌, each}
use Rattle.model.specs.Records.{Ptr}
use Rattle.model.specs.Heap.{Nursery, Elder, Heap}
use Rattle.model.specs.Collector.{swap_cell, swap_young, swap_old}
use Rattle.theorems.specs.Does.{with_young, with_old}
use Rattle.theorems.specs.Apart.{swap_both}
use Rattle.trace.specs.Words.{tab, ptr_at}
use Rattle.changes.specs.Changes.{times, count_change}
use Rattle.fields.specs.Fields.{bar_of, on_bar}

-- the nursery's cells below the cursor changed, and nothing counted
unfoldable pub swapped_young : Ptr × ℕ → Nursery → Nursery
swapped_young m y = record { cursor = y.cursor; colls = y.colls; proms = y.proms; bar = y.bar; lens = y.lens; cells = map (swap_cell m) (take y.cursor y.cells) ++ drop y.cursor y.cells }

-- k changed cells counted on the barrier of heap own

unfoldable pub count_moved : ℕ → ℕ → Ptr × ℕ → Heap → Res (Unit {0} × Heap)
count_moved own k m h = times k (count_change own m) (bar_of own h) >>= λ b. ok (tt, on_bar own b h)

-- the model's steps for one pointer

unfoldable pub young_step : Ptr × ℕ → Heap → Res (Unit {0} × Heap)
young_step m h = swap_young m h.young >>= λ y. ok (tt, with_young y h)

unfoldable pub old_step : Ptr × ℕ → Heap → Res (Unit {0} × Heap)
old_step m h = swap_old m h.old >>= λ e. ok (tt, with_old e h)

-- both generations, for one pointer and for all

unfoldable pub with_both : Heap → Nursery × Elder → Res (Unit {0} × Heap)
with_both h g = ok (tt, record { size = h.size; young = g.0; old = g.1 })

unfoldable pub change_step : Ptr × ℕ → Heap → Res (Unit {0} × Heap)
change_step m h = swap_both m (h.young, h.old) >>= with_both h

unfoldable pub changes_step : List (Ptr × ℕ) → Heap → Res (Unit {0} × Heap)
changes_step ms h = each swap_both ms (h.young, h.old) >>= with_both h

-- the moves of the nursery's pointers that the words hold: members in entries of three words, the new bases beside them

abbrev pub member_move : Ptr → ℕ → Ptr × ℕ
member_move p new = (record { heap = 0; base = p.base; off = p.off }, new)

unfoldable pub move_at : List ℕ → List ℕ → ℕ → Ptr × ℕ
move_at list bases i = member_move (ptr_at list i) (get_or bases i 0)

unfoldable pub moves_in : ℕ → List ℕ → List ℕ → List (Ptr × ℕ)
moves_in n list bases = tab (move_at list bases) 0 n

-- all of them, as many as have an entry and a base
abbrev pub moves_of : List ℕ → List ℕ → List (Ptr × ℕ)
moves_of list bases = moves_in (min (length list / 3) (length bases)) list bases
