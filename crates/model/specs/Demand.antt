-- Demand 3: one claim over all lists of alloc, read and write calls from a fresh heap.
use Rattle.std.specs.Prelude.{◌≡◌, Bool, true, false, ◌&&◌, ◌↔◌, ◌⊎◌, ◌≢◌, ℕ, suc, ◌+◌, ◌-◌, ◌*◌, ◌%◌, ◌/◌, ◌^◌, ◌≤◌, ◌<◌, eqb, length, get_or, set, take, drop, replicate}
use mathlib.Core.List.{List, [], ◌∷◌, map, Memᴰ}
use Rattle.model.specs.Lists.{keep_if, flat, sum}
use Rattle.model.specs.Reach.{Least, NoDup, Exact}
use Rattle.model.specs.Res.{ok, ◌>>=◌}
use Rattle.model.specs.Records.{Ptr, Cell, plain, ref, blank, whole, biased}
use Rattle.model.specs.Barrier.{Barrier, count}
use Rattle.model.specs.Heap.{Nursery, Elder, Sizes, in_bounds, Heap, fresh, held}
use Rattle.model.specs.Image.{sizes_of, encode, decode, sized, formed}
use Rattle.model.specs.Elder.{Step, move, sweeping, moves_of, sweeps_of}
use Rattle.model.specs.Collector.{Allocation}
use Rattle.model.specs.Calls.{cells_in, opened, alloc_on, Outcome, Call, allocs, reads, writes, call}

-- Start and step of the least sets, in document 01's words

-- every one bit of m is a one in b
abbrev pub OnesIn : ℕ → ℕ → Type 0
OnesIn m b = (i : ℕ) → m / 2 ^ i % 2 ≡ 1 → b / 2 ^ i % 2 ≡ 1

-- a position with a count above zero in the other heap's barrier is a mask, and it matches b
abbrev pub Remembered : Barrier → ℕ → Type 0
Remembered other b = (m : ℕ) × (0 < count other m) × OnesIn m b

-- a start is a root pointer, or (own, b, 0) for an allocated b that a mask matches
abbrev pub Start : ℕ → (ℕ → Type 0) → List Cell → Barrier → Ptr → Type 0
Start own Allocated roots other p = Memᴰ (ref p) roots ⊎ ((p.heap ≡ own) × (p.off ≡ 0) × Allocated p.base × Remembered other p.base)

abbrev pub YoungStart : Heap → List Cell → Ptr → Type 0
YoungStart h roots = Start 0 (λ b. 0 < get_or h.young.lens b 0) roots h.old.bar

-- p, whichever its heap, leads to the own-heap pointers in the nursery allocation at its base, if any
abbrev pub YoungLeads : Nursery → Ptr → Ptr → Type 0
YoungLeads y p q = (q.heap ≡ 0) × ((i : ℕ) × (i < get_or y.lens p.base 0) × (get_or y.cells (p.base + i) blank ≡ ref q))

-- the elder as the moves before left it; the masks are those of the call's start
abbrev pub OldStart : Heap → List Cell → Elder → Ptr → Type 0
OldStart h roots e = Start 1 (λ b. 0 < length (get_or e.slots b [])) roots h.young.bar

abbrev pub OldLeads : Elder → Ptr → Ptr → Type 0
OldLeads e p q = (q.heap ≡ 1) × ((i : ℕ) × (i < length (get_or e.slots p.base [])) × (get_or (get_or e.slots p.base []) i blank ≡ ref q))

-- The steps of a call

-- a move: the nursery allocation at the pointer's base stands, whole, at the new base; every other slot is as before
pub record Copied (h : Heap) (p : Ptr) (b : ℕ) (e e' : Elder) : Type 0 where
  pub base : b ≡ held e.slots
  pub below : b < h.size.s
  pub long : length (get_or e'.slots b []) ≡ get_or h.young.lens p.base 0
  pub cells : (i : ℕ) → i < get_or h.young.lens p.base 0 → get_or (get_or e'.slots b []) i blank ≡ get_or h.young.cells (p.base + i) blank
  pub others : (k : ℕ) → k ≢ b → get_or e'.slots k [] ≡ get_or e.slots k []
  pub collections : e'.colls ≡ e.colls

-- an elder collection: it kept exactly the bases whose offset-zero pointer is in its least set, whose members are the visits
pub record Swept (h : Heap) (roots : List Cell) (ps : List Ptr) (e e' : Elder) : Type 0 where
  pub full : h.size.t ≤ held e.slots
  pub visits : Exact (OldStart h roots e) (OldLeads e) ps
  pub few : length ps ≤ length roots + h.size.s + h.size.c
  pub kept : (b : ℕ) → Least (OldStart h roots e) (OldLeads e) (whole 1 b) → get_or e'.slots b [] ≡ get_or e.slots b []
  pub dropped : (b : ℕ) → (Least (OldStart h roots e) (OldLeads e) (whole 1 b) → ⊥) → get_or e'.slots b [] ≡ []
  pub collections : e'.colls ≡ suc e.colls

-- Each step begins where the one before ended. A move comes right after a collection, or where the allocations number less
-- than T; a collection comes right before a move. The flags say whether the step before is a collection.
abbrev pub Chain : Heap → List Cell → Bool → Elder → List Step → Bool → Elder → Type 0
Chain h roots swept e [] swept' e' = (swept ≡ swept') × (e ≡ e')
Chain h roots swept e (move p b x y ∷ l) swept' e' = (x ≡ e) × ((swept ≡ true) ⊎ (held x.slots < h.size.t)) × Copied h p b x y × Chain h roots false y l swept' e'
Chain h roots swept e (sweeping ps x y ∷ l) swept' e' = (x ≡ e) × (swept ≡ false) × Swept h roots ps x y × Chain h roots true y l swept' e'

-- the new allocation, in the emptied nursery or as Uninitialized cells at the elder's new base
abbrev pub Given : Sizes → ℕ → Ptr → Nursery → List (List Cell) → List (List Cell) → Type 0
Given z a p y ss ss' =
    ((a < z.n) × (p ≡ whole 0 0) × (y.cursor ≡ a) × (y.lens ≡ set (replicate z.n 0) 0 a) × (ss' ≡ ss))
    ⊎ ((z.n ≤ a) × (p ≡ whole 1 (held ss)) × (held ss < z.s) × (y.cursor ≡ 0) × (y.lens ≡ replicate z.n 0) × (ss' ≡ set ss (held ss) (replicate a blank)))

-- a cell before and after the pointers change: a moved pointer becomes (1, new base, 0), any other cell stays
abbrev pub Changed : List (Ptr × ℕ) → Cell → Cell → Type 0
Changed ms c c' = ((m : Ptr × ℕ) × Memᴰ m ms × (c ≡ ref m.0) × (c' ≡ ref (whole 1 m.1))) ⊎ ((c' ≡ c) × ((m : Ptr × ℕ) → Memᴰ m ms → c ≢ ref m.0))

abbrev pub AllChanged : List (Ptr × ℕ) → List Cell → List Cell → Type 0
AllChanged ms [] [] = Unit {0}
AllChanged ms [] (c ∷ l) = ⊥
AllChanged ms (c ∷ l) [] = ⊥
AllChanged ms (c ∷ l) (c' ∷ l') = Changed ms c c' × AllChanged ms l l'

unfoldable pub sources : List (Ptr × ℕ) → List Ptr
sources ms = map (λ (m : Ptr × ℕ). m.0) ms

-- sorted by base, then signed offset
abbrev pub Before : Ptr → Ptr → Type 0
Before p q = (p.base < q.base) ⊎ ((p.base ≡ q.base) × (biased p.off ≤ biased q.off))

abbrev pub Sorted : List Ptr → Type 0
Sorted [] = Unit {0}
Sorted (p ∷ ps) = ((q : Ptr) → Memᴰ q ps → Before p q) × Sorted ps

-- An answered alloc that collected the nursery, over the heap before it
pub record Collected (h : Heap) (roots : List Cell) (a : ℕ) (r : Allocation) : Type 0 where
  -- afterwards no root points into the nursery
  pub no_root : (p : Ptr) → Memᴰ (ref p) r.roots → p.heap ≢ 0
  -- an elder cell points there only with a pointer that an elder cell held before the call, and whose offset is not zero or
  -- whose base was unallocated then
  pub elder_cells : (p : Ptr) → Memᴰ (ref p) (flat r.heap.old.slots) → p.heap ≡ 0
      → Memᴰ (ref p) (flat h.old.slots) × ((p.off ≢ 0) ⊎ (get_or h.young.lens p.base 0 ≡ 0))
  -- the nursery pointers moved are exactly those in the least set
  pub moved : (p : Ptr) → Memᴰ p (sources (moves_of r.steps)) ↔ (Least (YoungStart h roots) (YoungLeads h.young) p × (p.heap ≡ 0))
  pub moved_once : NoDup (sources (moves_of r.steps))
  pub in_order : Sorted (sources (moves_of r.steps))
  -- the visits equal the set's size
  pub visits : Exact (YoungStart h roots) (YoungLeads h.young) r.members
  pub few : length r.members ≤ length roots + 2 * h.size.n
  -- the steps, from the elder before the call to the one that the new allocation meets; then the pointers change
  pub met : Elder
  pub steps : Chain h roots false h.old r.steps false met
  pub given : List (List Cell)
  pub new : Given h.size a r.ptr r.heap.young met.slots given
  pub elder_changed : (b : ℕ) → AllChanged (moves_of r.steps) (get_or given b []) (get_or r.heap.old.slots b [])
  pub roots_changed : AllChanged (moves_of r.steps) roots r.roots
  pub nursery_changed : AllChanged (moves_of r.steps) (take r.heap.young.cursor h.young.cells) (take r.heap.young.cursor r.heap.young.cells)
  pub nursery_kept : drop r.heap.young.cursor r.heap.young.cells ≡ drop r.heap.young.cursor h.young.cells
  -- the counters
  pub nursery_collections : r.heap.young.colls ≡ suc h.young.colls
  pub promotions : r.heap.young.proms ≡ h.young.proms + length r.members
  pub elder_collections : r.heap.old.colls ≡ h.old.colls + length (sweeps_of r.steps)

-- The same over words: `l` is what the call answered, the pointer and the four counts
pub record CollectedCall (w roots : List ℕ) (scratch a : ℕ) (o : Outcome) (l : List ℕ) : Type 0 where
  pub result : Allocation
  pub is : (opened w >>= λ h. alloc_on h roots scratch a) ≡ ok result
  pub did : Collected (decode w) (cells_in roots) a result
  pub image : decode o.image ≡ result.heap
  pub roots_after : cells_in o.roots ≡ result.roots
  pub answer : l ≡ result.ptr.heap ∷ result.ptr.base ∷ result.ptr.off ∷ 1 ∷ length result.members ∷ length (sweeps_of result.steps) ∷ sum (map length (sweeps_of result.steps)) ∷ []

-- an answered alloc whose amount stays young: nothing is collected, moved or changed but the cursor and one length
pub record StayedCall (w roots : List ℕ) (a : ℕ) (o : Outcome) (l : List ℕ) : Type 0 where
  pub answer : l ≡ 0 ∷ (decode w).young.cursor ∷ 0 ∷ 0 ∷ 0 ∷ 0 ∷ 0 ∷ []
  pub cursor : (decode o.image).young.cursor ≡ (decode w).young.cursor + a
  pub lens : (decode o.image).young.lens ≡ set (decode w).young.lens (decode w).young.cursor a
  pub cells : (decode o.image).young.cells ≡ (decode w).young.cells
  pub collections : (decode o.image).young.colls ≡ (decode w).young.colls
  pub promotions : (decode o.image).young.proms ≡ (decode w).young.proms
  pub barrier : (decode o.image).young.bar ≡ (decode w).young.bar
  pub elder : (decode o.image).old ≡ (decode w).old
  pub roots_kept : o.roots ≡ roots

-- what is claimed of a call: every answered alloc stays young, by its amount, or collected the nursery
abbrev pub Claim : List ℕ → Call → Outcome → Type 0
Claim w (allocs roots scratch a) o = (l : List ℕ) → o.answer ≡ ok l
    → ((a < (decode w).size.n - (decode w).young.cursor) × StayedCall w roots a o l) ⊎ (((decode w).size.n - (decode w).young.cursor ≤ a) × CollectedCall w roots scratch a o l)
Claim w (reads p) o = Unit {0}
Claim w (writes p v) o = Unit {0}

-- Lists of calls, each with what it answered and left: each gets the image as the last one left it
pub data History : List ℕ → List (Call × Outcome) → List ℕ → Type 0 where
  nothing : {w : List ℕ} → History w [] w
  next : {w v : List ℕ} {l : List (Call × Outcome)} (c : Call) (o : Outcome) → o ≡ call c w → History o.image l v → History w ((c, o) ∷ l) v

-- the cell points into the nursery, with low base byte k
unfoldable pub points_at : ℕ → Cell → Bool
points_at k (plain a v) = false
points_at k (ref p) = eqb p.heap 0 && eqb (p.base % 256) k

-- each of the elder's 256 counts is at least the number of elder cells pointing into the nursery with that low base byte
abbrev pub Counted : Elder → Type 0
Counted e = (k : ℕ) → k < 256 → length (keep_if (points_at k) (flat e.slots)) ≤ count e.bar k

abbrev pub AllClaims : List ℕ → List (Call × Outcome) → Type 0
AllClaims w [] = Unit {0}
AllClaims w (x ∷ l) = Claim w x.0 x.1 × AllClaims x.1.image l

-- the claim for one list
pub record Demand (z : Sizes) (l : List (Call × Outcome)) (v : List ℕ) : Type 0 where
  pub counts : Counted (decode v).old
  pub allocs_claimed : AllClaims (encode (fresh z)) l
  -- and no list is ever answered 1 or 2 for its image
  pub still_sized : sized v ≡ true
  pub still_formed : formed v ≡ true
  pub same_sizes : sizes_of v ≡ z

-- and for all lists
abbrev pub Demand3 : Type 0
Demand3 = (z : Sizes) → in_bounds z ≡ true → (l : List (Call × Outcome)) (v : List ℕ) → History (encode (fresh z)) l v → Demand z l v
