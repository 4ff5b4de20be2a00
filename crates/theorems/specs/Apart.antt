-- The change of moved pointers as code does it: in both generations, and then in roots.
use Rattle.std.specs.Prelude.{List, [], ◌∷◌, map, ℕ}
use Rattle.model.specs.Res.{Res, ok, ◌>>=◌}
use Rattle.model.specs.Records.{Ptr, Cell}
use Rattle.model.specs.Heap.{Nursery, Elder}
use Rattle.model.specs.Collector.{swap_cell, swap_young, swap_old}

unfoldable pub swap_both : Ptr × ℕ → Nursery × Elder → Res (Nursery × Elder)
swap_both m g = do
  y ← swap_young m g.0
  e ← swap_old m g.1
  ok (y, e)

unfoldable pub swap_roots : List (Ptr × ℕ) → List Cell → List Cell
swap_roots [] roots = roots
swap_roots (m ∷ ms) roots = swap_roots ms (map (swap_cell m) roots)

-- both generations with roots beside them
unfoldable pub with_roots : List Cell → Nursery × Elder → Res (Nursery × Elder × List Cell)
with_roots roots g = ok (g.0, g.1, roots)
