-- Elder generation (`ElderGen`): the members of its collection, what it keeps, placing an allocation, moves.
use Rattle.std.specs.Prelude.{Bool, true, false, not, List, [], ◌∷◌, ◌++◌, map, ℕ, suc, ◌+◌, ltb, leb, length, get_or, set, replicate}
use Rattle.model.specs.Lists.{only_if, places}
use Rattle.model.specs.Res.{Res, ok, ◌>>=◌, ask, each}
use Rattle.model.specs.Reach.{mem, closure}
use Rattle.model.specs.Records.{Ptr, Cell, blank, whole, same_ptr, pointers, pointers_to}
use Rattle.model.specs.Barrier.{Barrier, most, count_in, count_out}
use Rattle.model.specs.Heap.{Nursery, Elder, Sizes, part, held, in_use}
use Rattle.model.specs.Nursery.{matched}

-- the same member rule in the elder

unfoldable pub old_start : Elder → List Cell → List ℕ → List Ptr
old_start e roots ms = pointers roots ++ matched 1 ms (places 0 (map length e.slots))

unfoldable pub old_step : Elder → Ptr → List Ptr
old_step e p = pointers_to 1 (get_or e.slots p.base [])

-- at most R + S + C
unfoldable pub old_members : Elder → List Cell → List ℕ → List Ptr
old_members e roots ms = closure same_ptr (old_step e) (length roots + length e.slots + in_use e.slots) (old_start e roots ms)

-- an allocated base is kept exactly when (1, base, 0) is a member
unfoldable pub keeps : List Ptr → ℕ → Bool
keeps ps b = mem same_ptr (whole 1 b) ps

unfoldable pub keep : List Ptr → ℕ → List (List Cell) → List (List Cell)
keep ps b [] = []
keep ps b (s ∷ ss) = only_if (keeps ps b) s ∷ keep ps (suc b) ss

-- cells of dropped ones are counted out
unfoldable pub count_dropped : List Ptr → ℕ → List (List Cell) → Barrier → Res Barrier
count_dropped ps b [] w = ok w
count_dropped ps b (s ∷ ss) w = each (count_out 1) (only_if (not (keeps ps b)) s) w >>= count_dropped ps (suc b) ss

unfoldable pub sweep : List Ptr → Elder → Res Elder
sweep ps e = do
  w ← count_dropped ps 0 e.slots e.bar
  ok (record { colls = suc e.colls; bar = w; slots = keep ps 0 e.slots })

-- A collection: the members, and the elder after it
unfoldable pub collect_old : Elder → List Cell → List ℕ → Res (List Ptr × Elder)
collect_old e roots ms =
    let ps = old_members e roots ms in
    ask 11 (ltb e.colls most) >>= λ _.
    sweep ps e >>= λ e'.
    ok (ps, e')

-- a new base is the number of allocations
unfoldable pub new_base : Elder → ℕ
new_base e = held e.slots

-- 7. Is the new base below S, and are its k cells together with those still held at most C, room of replaced and dropped
-- allocations reused?
unfoldable pub room : Sizes → ℕ → Elder → Res (Unit {0})
room z k e = do
  _ ← ask 7 (ltb (new_base e) z.s)
  ask 7 (leb (in_use (set e.slots (new_base e) []) + k) z.c)

-- cells put at the new base: an allocation already there is replaced, its counts not taken out; cells moved in are counted in
unfoldable pub put : List Cell → Elder → Res (ℕ × Elder)
put cs e = do
  w ← each (count_in 1) cs e.bar
  ok (new_base e, record { colls = e.colls; bar = w; slots = set e.slots (new_base e) cs })

unfoldable pub place : Sizes → List Cell → Elder → Res (ℕ × Elder)
place z cs e = room z (length cs) e >>= λ _. put cs e

-- a new allocation, as Uninitialized cells: there must be room before they are made
unfoldable pub place_new : Sizes → ℕ → Elder → Res (ℕ × Elder)
place_new z a e = room z a e >>= λ _. put (replicate a blank) e

-- Moves. The steps of a call, in order: a pointer's allocation copied to a new base, or a collection with its members; each
-- with the elder before and after it.

pub data Step : Type 0 where
  move : Ptr → ℕ → Elder → Elder → Step
  sweeping : List Ptr → Elder → Elder → Step

pub record Moving : Type 0 where
  pub elder : Elder
  pub steps : List Step

-- it first collects if the allocations number T or more, with the call's unmoved roots and its masks
unfoldable pub collect_if_full : Sizes → List Cell → List ℕ → Moving → Res Moving
collect_if_full z roots ms v =
    elim (leb z.t (held v.elder.slots)) [
      | true ↦ (collect_old v.elder roots ms >>= λ r. ok (record { elder = r.1; steps = v.steps ++ sweeping r.0 v.elder r.1 ∷ [] }))
      | false ↦ ok v
    ]

-- a move copies the allocation at its pointer's base, whole, to a new elder base
unfoldable pub move_one : Sizes → Nursery → List Cell → List ℕ → Ptr → Moving → Res Moving
move_one z y roots ms p v = do
  v' ← collect_if_full z roots ms v
  r ← place z (part y p.base) v'.elder
  ok (record { elder = r.1; steps = v'.steps ++ move p r.0 v'.elder r.1 ∷ [] })

-- what was moved, and to which base; the members of each collection

unfoldable pub moves_of : List Step → List (Ptr × ℕ)
moves_of [] = []
moves_of (move p b e e' ∷ l) = (p, b) ∷ moves_of l
moves_of (sweeping ps e e' ∷ l) = moves_of l

unfoldable pub sweeps_of : List Step → List (List Ptr)
sweeps_of [] = []
sweeps_of (move p b e e' ∷ l) = sweeps_of l
sweeps_of (sweeping ps e e' ∷ l) = ps ∷ sweeps_of l
