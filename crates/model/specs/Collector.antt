-- Collector: alloc, read, write, report.
use Rattle.std.specs.Prelude.{Bool, true, false, ◌&&◌, List, [], ◌∷◌, ◌++◌, map, ℕ, zero, suc, ◌+◌, ◌-◌, ltb, leb, length, get_or, take, drop, set}
use Rattle.model.specs.Lists.{places, sum}
use Rattle.model.specs.Res.{Res, ok, refuse, ◌>>=◌, ask, each}
use Rattle.model.specs.Records.{Ptr, Cell, plain, ref, blank, whole, same_ptr, biased, sum_fits}
use Rattle.model.specs.Barrier.{Barrier, counts, count_in, count_out, masks}
use Rattle.model.specs.Heap.{Nursery, Elder, Sizes, Heap, held, in_use}
use Rattle.model.specs.Nursery.{bump, survivors, collect_young}
use Rattle.model.specs.Elder.{collect_old, place_new, Step, move_one, moves_of, sweeps_of}

-- Each moved pointer, offset included, becomes (1, new base, 0)

unfoldable pub moved_to : Ptr × ℕ → Ptr
moved_to m = whole 1 m.1

unfoldable pub holds : Ptr → Cell → Bool
holds p (plain k v) = false
holds p (ref q) = same_ptr p q

unfoldable pub swap_cell : Ptr × ℕ → Cell → Cell
swap_cell m c = elim (holds m.0 c) [ true ↦ ref (moved_to m) | false ↦ c ]

-- a changed cell is counted out as it was, then in as it is
unfoldable pub count_swap : ℕ → Ptr × ℕ → Cell → Barrier → Res Barrier
count_swap own m c w = elim (holds m.0 c) [ true ↦ (count_out own c w >>= count_in own (ref (moved_to m))) | false ↦ ok w ]

-- in nursery cells below the cursor, which is the one after the new allocation
unfoldable pub swap_young : Ptr × ℕ → Nursery → Res Nursery
swap_young m y = do
  w ← each (count_swap 0 m) (take y.cursor y.cells) y.bar
  ok (record { cursor = y.cursor; colls = y.colls; proms = y.proms; bar = w; lens = y.lens; cells = map (swap_cell m) (take y.cursor y.cells) ++ drop y.cursor y.cells })

-- in elder cells
unfoldable pub swap_old : Ptr × ℕ → Elder → Res Elder
swap_old m e = do
  w ← each (each (count_swap 1 m)) e.slots e.bar
  ok (record { colls = e.colls; bar = w; slots = map (map (swap_cell m)) e.slots })

-- and in roots
unfoldable pub swap_all : Ptr × ℕ → Nursery × Elder × List Cell → Res (Nursery × Elder × List Cell)
swap_all m g = do
  y ← swap_young m g.0
  e ← swap_old m g.1
  ok (y, e, map (swap_cell m) g.2)

-- Alloc. Beside the result: how often the nursery was collected (0 or 1), the members that were entered, the steps
pub record Allocation : Type 0 where
  pub heap : Heap
  pub roots : List Cell
  pub ptr : Ptr
  pub collections : ℕ
  pub members : List Ptr
  pub steps : List Step

-- The four counts that the result carries: nursery collections and visits, elder collections and visits. A visit is one
-- pointer entered in a collection's list.
unfoldable pub four_counts : Allocation → List ℕ
four_counts r = r.collections ∷ length r.members ∷ length (sweeps_of r.steps) ∷ sum (map length (sweeps_of r.steps)) ∷ []

-- after the nursery's collection the amount is tried there again, then given to the elder, without an elder collection
unfoldable pub alloc_again : Sizes → ℕ → Nursery → Elder → Res (Ptr × Nursery × Elder)
alloc_again z a y e =
    elim (ltb a (z.n - y.cursor)) [
      | true ↦ ok (whole 0 y.cursor, bump y a, e)
      | false ↦ place_new z a e >>= λ r. ok (whole 1 r.0, y, r.1)
    ]

-- the masks are taken at the start: the nursery's from the elder's barrier, the elder's from the nursery's
unfoldable pub collect_and_alloc : Heap → List Cell → ℕ → Res Allocation
collect_and_alloc h roots a =
    let y = h.young in
    let e = h.old in
    let z = h.size in
    collect_young y roots (masks e.bar) >>= λ c.
    each (move_one z y roots (masks y.bar)) (survivors c.0) (record { elder = e; steps = [] }) >>= λ v.
    alloc_again z a c.1 v.elder >>= λ g.
    each swap_all (moves_of v.steps) (g.1, g.2, roots) >>= λ r.
    ok (record {
      heap = record { size = z; young = r.0; old = r.1 };
      roots = r.2;
      ptr = g.0;
      collections = 1;
      members = c.0;
      steps = v.steps;
    })

-- 5. Is the amount, the word of an i64, above 0? An amount below N − cursor stays young.
unfoldable pub alloc : Heap → List Cell → ℕ → Res Allocation
alloc h roots a =
    ask 5 (ltb 0 a && ltb a 0x8000_0000_0000_0000) >>= λ _.
    elim (ltb a (h.size.n - h.young.cursor)) [
      | true ↦ ok (record {
        heap = record { size = h.size; young = bump h.young a; old = h.old };
        roots = roots;
        ptr = whole 0 h.young.cursor;
        collections = 0;
        members = [];
        steps = [];
      })
      | false ↦ collect_and_alloc h roots a
    ]

-- Access in heap 0: index = base read as i64, plus offset; within i64 (9), then in 0 to N − 1 (8), allocated or not
unfoldable pub young_at : Heap → Ptr → Res ℕ
young_at h p =
    let i = biased p.base + biased p.off in
    ask 9 (sum_fits p.base p.off) >>= λ _.
    ask 8 (leb 0x1_0000_0000_0000_0000 i && ltb i (0x1_0000_0000_0000_0000 + h.size.n)) >>= λ _.
    ok (i - 0x1_0000_0000_0000_0000)

-- in heap 1 the base must be allocated and the offset within it
unfoldable pub old_at : Heap → Ptr → Res (List Cell)
old_at h p =
    let s = get_or h.old.slots p.base [] in
    ask 8 (ltb p.off (length s)) >>= λ _. ok s

-- any other heap: 8
unfoldable pub read : Heap → Ptr → Res Cell
read h p =
    elim p.heap [
      | zero ↦ young_at h p >>= λ i. ok (get_or h.young.cells i blank)
      | suc k ↦ elim k [
        | zero ↦ old_at h p >>= λ s. ok (get_or s p.off blank)
        | suc j ↦ refuse 8
      ]
    ]

-- a write counts the old cell out only below the cursor, then the new value in
unfoldable pub out_young : Nursery → ℕ → Res Barrier
out_young y i = elim (ltb i y.cursor) [ true ↦ count_out 0 (get_or y.cells i blank) y.bar | false ↦ ok y.bar ]

unfoldable pub write_young : Nursery → ℕ → Cell → Res Nursery
write_young y i c = do
  w ← out_young y i
  w' ← count_in 0 c w
  ok (record { cursor = y.cursor; colls = y.colls; proms = y.proms; bar = w'; lens = y.lens; cells = set y.cells i c })

-- in heap 1 it always counts the old cell out
unfoldable pub write_old : Elder → ℕ → List Cell → ℕ → Cell → Res Elder
write_old e b s o c = do
  w ← count_out 1 (get_or s o blank) e.bar
  w' ← count_in 1 c w
  ok (record { colls = e.colls; bar = w'; slots = set e.slots b (set s o c) })

unfoldable pub in_young : Heap → Ptr → Cell → Res Heap
in_young h p c = do
  i ← young_at h p
  y ← write_young h.young i c
  ok (record { size = h.size; young = y; old = h.old })

unfoldable pub in_old : Heap → Ptr → Cell → Res Heap
in_old h p c = do
  s ← old_at h p
  e ← write_old h.old p.base s p.off c
  ok (record { size = h.size; young = h.young; old = e })

unfoldable pub write : Heap → Ptr → Cell → Res Heap
write h p c = elim p.heap [ zero ↦ in_young h p c | suc k ↦ elim k [ zero ↦ in_old h p c | suc j ↦ refuse 8 ] ]

-- Report (`test`): nursery collections, allocations, cells, count sum, free cells, promotions; elder collections,
-- allocations, cells, count sum; leak, always 0
unfoldable pub statistics : Heap → List ℕ
statistics h =
    let y = h.young in
    let e = h.old in
    y.colls ∷ length (places 0 y.lens) ∷ y.cursor ∷ sum (counts y.bar) ∷ (h.size.n - y.cursor) ∷ y.proms
    ∷ e.colls ∷ held e.slots ∷ in_use e.slots ∷ sum (counts e.bar) ∷ 0 ∷ []

-- takes its numbers, then collects both generations without roots or masks
unfoldable pub report : Heap → Res (List ℕ × Heap)
report h = do
  y ← collect_young h.young [] []
  e ← collect_old h.old [] []
  ok (statistics h, record { size = h.size; young = y.1; old = e.1 })
