-- Alloc, write and report leave a fit heap of the same sizes.
use mathlib.Core.Path.{◌≡◌, refl, ◌∙◌}
use mathlib.Core.Bool.{Bool, true, false, ◌&&◌}
use mathlib.Core.Logic.{◌⊎◌, inl, inr}
use mathlib.Core.List.{List, []}
use Prim.Native.Nat.{ℕ, zero, suc, ◌-◌, ◌≤◌, ◌<◌}
use lib.Dec.{ltb}
use lib.ListN.{length, get_or, length-set}
use Rattle.model.specs.Lists.{flat}
use Rattle.model.specs.Res.{ok, refuse, ◌>>=◌, each}
use Rattle.model.specs.Records.{Ptr, Cell, ref, blank, valid, all_valid, whole}
use Rattle.model.specs.Barrier.{most, count_out, masks}
use Rattle.model.specs.Heap.{Nursery, Elder, Sizes, Heap}
use Rattle.model.specs.Nursery.{bump, survivors, collect_young}
use Rattle.model.specs.Elder.{old_members, collect_old, place_new, move_one, moves_of}
use Rattle.model.specs.Collector.{swap_all, Allocation, alloc_again, collect_and_alloc, alloc, young_at, old_at, read, out_young, write_young, write_old, in_young, in_old, write, report}
use Rattle.model.specs.Demand.{Collected}
use Rattle.theorems.specs.Holds.{Holds, such, none}
use Rattle.theorems.specs.Fit.{FitBarrier, FitNursery, Fit}
use Rattle.theorems.proofs.Res.{bind, bind', asked, weaken}
use borrow.Author.Tests.{ltb-true, ltb-false}
use Rattle.theorems.proofs.Lists.{and_left, flat_in}
use Rattle.theorems.proofs.Contents.{Valid, all_valid_lem, valid-all, at-valid, valid-set}
use Rattle.theorems.proofs.Barrier.{in-fit, out-fit}
use Rattle.theorems.proofs.Elder.{Good, sweep-good, write-good}
use Rattle.theorems.proofs.Collect.{GoodHeap, bump-fit, collect-young, Told, collect-told}

-- the answer of an alloc whose amount stays young
unfoldable pub stayed : Heap → List Cell → ℕ → Allocation
stayed h roots a = record {
  heap = record { size = h.size; young = bump h.young a; old = h.old };
  roots = roots;
  ptr = whole 0 h.young.cursor;
  collections = 0;
  members = [];
  steps = [];
}

-- by its amount an alloc stays young, or it collects
abbrev pub Kind : Heap → List Cell → ℕ → Allocation → Type 0
Kind h roots a r =
    ((a < h.size.n - h.young.cursor) × (r ≡ stayed h roots a))
    ⊎ ((h.size.n - h.young.cursor ≤ a) × (r.collections ≡ 1) × Collected h roots a r)

module _ (M : Type 0) where
  pub alloc_told : (h : Heap) (roots : List Cell) (a : ℕ) → GoodHeap M h → Valid roots → Holds (λ r. Told M h roots r × (M → Kind h roots a r)) (alloc h roots a)
  unfolding alloc stayed
  alloc_told h roots a g v = asked 5 (ltb 0 a && ltb a 0x8000_0000_0000_0000) _ (λ e. go (ltb-true 0 a (and_left (ltb 0 a) (ltb a 0x8000_0000_0000_0000) e)) (ltb a (h.size.n - h.young.cursor)) refl)
    where
      go : 0 < a → (t : Bool) → ltb a (h.size.n - h.young.cursor) ≡ t → Holds (λ r. Told M h roots r × (M → Kind h roots a r)) (elim t [ true ↦ ok (stayed h roots a) | false ↦ collect_and_alloc h roots a ])
      go pos true e = such (
        record {
          good = record { sizes = g.sizes; young = bump-fit h.size h.young a pos (ltb-true a (h.size.n - h.young.cursor) e) g.young; old = g.old };
          same_size = refl;
          roots-valid = v;
          roots-length = refl;
        },
        λ _. inl (ltb-true a (h.size.n - h.young.cursor) e, refl),
      )
      go pos false e = weaken (collect-told M h roots g a pos v) (λ r t. (t.0, λ on. inr (ltb-false a (h.size.n - h.young.cursor) e, t.1, t.2 on)))

  out-young-fit : (y : Nursery) (i : ℕ) → FitBarrier y.bar → Holds FitBarrier (out_young y i)
  unfolding out_young
  out-young-fit y i f = go (ltb i y.cursor)
    where
      go : (t : Bool) → Holds FitBarrier (elim t [ true ↦ count_out 0 (get_or y.cells i blank) y.bar | false ↦ ok y.bar ])
      go true = out-fit 0 (get_or y.cells i blank) y.bar f
      go false = such f

  write-young-fit : (z : Sizes) (y : Nursery) (i : ℕ) (c : Cell) → valid c ≡ true → FitNursery z y → Holds (FitNursery z) (write_young y i c)
  unfolding write_young
  write-young-fit z y i c t f =
      bind _ (out-young-fit y i f.bar) (λ w s.
      bind _ (in-fit 0 c w s) (λ v q.
      such (record {
        cursor = f.cursor;
        colls = f.colls;
        proms = f.proms;
        bar = q;
        lens = f.lens;
        tiled = f.tiled;
        cells = length-set y.cells i c ∙ f.cells;
        valid = valid-set y.cells i c f.valid t;
      })))

  old-at : (h : Heap) (p : Ptr) → Holds (λ s. (s ≡ get_or h.old.slots p.base []) × (p.off < length s)) (old_at h p)
  unfolding old_at
  old-at h p = asked 8 (ltb p.off (length (get_or h.old.slots p.base []))) _ (λ e. such (refl, ltb-true p.off (length (get_or h.old.slots p.base [])) e))

  -- a heap after a call
  pub record Left (h h' : Heap) : Type 0 where
    pub good : GoodHeap M h'
    pub same_size : h'.size ≡ h.size

  pub write-left : (h : Heap) (p : Ptr) (c : Cell) → valid c ≡ true → GoodHeap M h → Holds (Left h) (write h p c)
  unfolding write in_young in_old
  write-left h p c t g = go p.heap
    where
      there : (s : List Cell) → s ≡ get_or h.old.slots p.base [] → p.off < length s → Holds (Good M h.size) (write_old h.old p.base s p.off c)
      there s e l = rw e (write-good h.size h.old p.base p.off c t (rw e at l) g.old)

      go : (n : ℕ) → Holds (Left h) (elim n [ zero ↦ in_young h p c | suc k ↦ elim k [ zero ↦ in_old h p c | suc j ↦ refuse 8 ] ])
      go zero = bind' (young_at h p) _ (λ i _. bind _ (write-young-fit h.size h.young i c t g.young) (λ y k. such (record { good = record { sizes = g.sizes; young = k; old = g.old }; same_size = refl })))
      go (suc zero) = bind _ (old-at h p) (λ s k. bind _ (there s k.0 k.1) (λ e q. such (record { good = record { sizes = g.sizes; young = g.young; old = q }; same_size = refl })))
      go (suc (suc j)) = none

  pub collect-old-good : (z : Sizes) (e : Elder) (roots : List Cell) (ms : List ℕ) → Good M z e → Holds (λ (r : List Ptr × Elder). Good M z r.1) (collect_old e roots ms)
  unfolding collect_old
  collect-old-good z e roots ms g =
      asked 11 (ltb e.colls most) _ (λ l.
      bind _ (sweep-good z (old_members e roots ms) e (ltb-true e.colls most l) g) (λ e' k. such k))

  pub report-left : (h : Heap) → GoodHeap M h → Holds (λ (r : List ℕ × Heap). Left h r.1) (report h)
  unfolding report
  report-left h g =
      bind _ (collect-young h.size h.young [] [] g.young) (λ y k.
      bind _ (collect-old-good h.size h.old [] [] g.old) (λ e q.
      such (record { good = record { sizes = g.sizes; young = k.fit; old = q }; same_size = refl })))

-- what a call answers: a read a valid cell, an alloc a pointer to heap 0 or 1

pub read-fit : (h : Heap) (p : Ptr) → Fit h → Holds (λ c. valid c ≡ true) (read h p)
unfolding read old_at
read-fit h p f = go p.heap
  where
    slot : List Cell
    slot = get_or h.old.slots p.base []

    slot-valid : all_valid slot ≡ true
    slot-valid = valid-all slot (λ c m. all_valid_lem (flat h.old.slots) f.old.valid c (flat_in h.old.slots p.base c m))

    go : (k : ℕ) → Holds (λ c. valid c ≡ true) (elim k [ zero ↦ young_at h p >>= λ i. ok (get_or h.young.cells i blank) | suc k ↦ elim k [ zero ↦ old_at h p >>= λ s. ok (get_or s p.off blank) | suc j ↦ refuse 8 ] ])
    go zero = bind' (young_at h p) _ (λ i _. such (at-valid h.young.cells i f.young.valid))
    go (suc zero) = bind (λ s. ok (get_or s p.off blank)) (asked 8 (ltb p.off (length slot)) (λ _. ok slot) (λ _. such slot-valid)) (λ s v. such (at-valid s p.off v))
    go (suc (suc j)) = none

pub new-valid : (h : Heap) (roots : List Cell) (a : ℕ) → Holds (λ (x : Allocation). valid (ref x.ptr) ≡ true) (alloc h roots a)
unfolding alloc collect_and_alloc alloc_again stayed whole valid
new-valid h roots a = asked 5 (ltb 0 a && ltb a 0x8000_0000_0000_0000) _ (λ _. go (ltb a (h.size.n - h.young.cursor)))
  where
    again : (z : Sizes) (y : Nursery) (e : Elder) (t : Bool) → Holds (λ (g : Ptr × Nursery × Elder). valid (ref g.0) ≡ true) (elim t [ true ↦ ok (whole 0 y.cursor, bump y a, e) | false ↦ place_new z a e >>= λ r. ok (whole 1 r.0, y, r.1) ])
    again z y e true = such refl
    again z y e false = bind' (place_new z a e) _ (λ r _. such refl)

    go : (t : Bool) → Holds (λ (x : Allocation). valid (ref x.ptr) ≡ true) (elim t [ true ↦ ok (stayed h roots a) | false ↦ collect_and_alloc h roots a ])
    go true = such refl
    go false =
        bind' (collect_young h.young roots (masks h.old.bar)) _ (λ c _.
        bind' (each (move_one h.size h.young roots (masks h.young.bar)) (survivors c.0) (record { elder = h.old; steps = [] })) _ (λ v _.
        bind _ (again h.size c.1 v.elder (ltb a (h.size.n - c.1.cursor))) (λ g low.
        bind' (each swap_all (moves_of v.steps) (g.1, g.2, roots)) _ (λ r _.
        such low))))
