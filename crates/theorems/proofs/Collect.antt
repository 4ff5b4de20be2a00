-- An alloc that collects the nursery does what demand 3 asks of it, and leaves a fit heap.
use mathlib.Core.Path.{◌≡◌, refl, sym, ap, subst, subst₂, ◌∙◌}
use mathlib.Core.Bool.{Bool, true, false}
use mathlib.Core.Logic.{◌⊎◌, ◌≢◌, inl, inr, ⊎_elim}
use mathlib.Core.List.Memᴰ
use mathlib.Core.List.{List, [], map, append-nil, Memᴰ}
use Prim.Native.Nat.{ℕ, zero, suc, ◌+◌, ◌-◌, ◌%◌, ◌≤◌, ◌<◌}
use native.Mathlib.Decide.{ℕ_discrete}
use native.Mathlib.Omega.{arith}
use lib.Dec.{ltb, leb}
use lib.ListN.{length, get_or, take, drop, replicate, length-replicate, length-set, length-map, get_or-map}
use Rattle.model.specs.Lists.{keep_if, flat}
use Rattle.model.specs.Reach.{Least, begin, next, Exact}
use Rattle.model.specs.Res.{ok, ◌>>=◌, each}
use Rattle.model.specs.Records.{Ptr, Cell, ref, blank, whole, in_heap}
use Rattle.model.specs.Barrier.{most, masks}
use Rattle.model.specs.Heap.{Nursery, Elder, Sizes, in_bounds, Heap, part, held}
use Rattle.model.specs.Image.{cursor_in}
use Rattle.model.specs.Nursery.{bump, young_members, survivors, all_allocated, emptied, collect_young}
use Rattle.model.specs.Elder.{place_new, Moving, move_one, moves_of}
use Rattle.model.specs.Collector.{Allocation, alloc_again, collect_and_alloc}
use Rattle.model.specs.Demand.{YoungStart, YoungLeads, Given, AllChanged, sources, Collected}
use Rattle.theorems.specs.Holds.{Holds, such}
use Rattle.theorems.specs.Fit.{FitNursery, Fit}
use borrow.Author.Tests.{eqb-true, ltb-true, ltb-false, leb-true}
use Rattle.theorems.proofs.Lists.{eqb_same, keep_if-in, keep_if-out}
use Rattle.theorems.proofs.Tiles.{cursor-below, zeros-tiled, allocation-added}
use Rattle.theorems.proofs.Masks.{low_mask}
use Rattle.theorems.proofs.Members.{young-exact, young-few, blank-no-ref}
use Rattle.theorems.proofs.Sort.{sort-in, sort-out, sort-once, sort_sorted, keep_if-once}
use Rattle.theorems.proofs.Res.{bind, asked, weaken, both}
use Rattle.theorems.proofs.Barrier.{absent-fit, low_byte, tally-pos}
use Rattle.theorems.proofs.Contents.{Valid, valid-blank, set-from, map-in, map-out, flat_map, part_out}
use Rattle.theorems.proofs.Elder.{Good, Room, room-is, put-good, good-fit}
use Rattle.theorems.proofs.Moves.{PutBy, put_is, Made, moves}
use Rattle.theorems.proofs.Change.{swapped, Young, all_changed, left, Swapped, swaps}

-- fit, and the elder's counts cover its cells, if M
pub record GoodHeap (M : Type 0) (h : Heap) : Type 0 where
  pub sizes : in_bounds h.size ≡ true
  pub young : FitNursery h.size h.young
  pub old : Good M h.size h.old

pub good-heap-fit : {M : Type 0} {h : Heap} → GoodHeap M h → Fit h
good-heap-fit g = record { sizes = g.sizes; young = g.young; old = good-fit g.old }

-- the nursery with one more allocation, and emptied

pub bump-fit : (z : Sizes) (y : Nursery) (a : ℕ) → 0 < a → a < z.n - y.cursor → FitNursery z y → FitNursery z (bump y a)
unfolding bump
bump-fit z y a h l f = record {
  cursor = cursor-below (y.cursor + a) z.n (omega arith);
  colls = f.colls;
  proms = f.proms;
  bar = f.bar;
  lens = length-set y.lens y.cursor a ∙ f.lens;
  tiled = allocation-added y.cursor a y.lens h (omega (arith, f.lens)) f.tiled;
  cells = f.cells;
  valid = f.valid;
}

pub emptied-fit : (z : Sizes) (y : Nursery) (k : ℕ) → y.colls < most → y.proms + k ≤ most → FitNursery z y → FitNursery z (emptied y k)
unfolding emptied cursor_in
emptied-fit z y k h l f = record {
  cursor = zero_in z.n;
  colls = h;
  proms = l;
  bar = absent-fit;
  lens = length-replicate (length y.lens) 0 ∙ f.lens;
  tiled = zeros-tiled (length y.lens);
  cells = f.cells;
  valid = f.valid;
}
  where
    zero_in : (n : ℕ) → cursor_in 0 n ≡ true
    zero_in zero = refl
    zero_in (suc n) = cursor-below 0 (suc n) (omega arith)

-- the nursery's collection
pub record CollectedBy (z : Sizes) (y : Nursery) (ps : List Ptr) (c : List Ptr × Nursery) : Type 0 where
  pub members : c.0 ≡ ps
  pub after : c.1 ≡ emptied y (length ps)
  pub fit : FitNursery z c.1

pub collect-young : (z : Sizes) (y : Nursery) (roots : List Cell) (ms : List ℕ) → FitNursery z y → Holds (CollectedBy z y (young_members y roots ms)) (collect_young y roots ms)
unfolding collect_young
collect-young z y roots ms f =
    let ps = young_members y roots ms in
    asked 11 (ltb y.colls most) _ (λ a.
    asked 6 (all_allocated y (survivors ps)) _ (λ _.
    asked 11 (leb (y.proms + length ps) most) _ (λ b.
    such (record { members = refl; after = refl; fit = emptied-fit z y (length ps) (ltb-true y.colls most a) (leb-true (y.proms + length ps) most b) f }))))

-- the amount tried again

blank-only : (n : ℕ) (p : Ptr) → Memᴰ (ref p) (replicate n blank) → ⊥
blank-only zero p m = Memᴰ.not-nil m
blank-only (suc n) p m = ⊎_elim (λ e. blank-no-ref p (sym e)) (λ k. blank-only n p k) (Memᴰ.cases_cons m)

pub record Again (M : Type 0) (z : Sizes) (a : ℕ) (y : Nursery) (e : Elder) (g : Ptr × Nursery × Elder) : Type 0 where
  pub young : FitNursery z g.1
  pub old : Good M z g.2
  pub colls : g.1.colls ≡ y.colls
  pub proms : g.1.proms ≡ y.proms
  pub cells : g.1.cells ≡ y.cells
  pub old-colls : g.2.colls ≡ e.colls
  pub given : Given z a g.0 g.1 e.slots g.2.slots
  pub from : (p : Ptr) → Memᴰ (ref p) (flat g.2.slots) → Memᴰ (ref p) (flat e.slots)

-- in an emptied nursery
again : (M : Type 0) (z : Sizes) (a : ℕ) (y : Nursery) (e : Elder) → y.cursor ≡ 0 → y.lens ≡ replicate z.n 0 → 0 < a → FitNursery z y → Good M z e → Holds (Again M z a y e) (alloc_again z a y e)
unfolding alloc_again bump place_new whole
again M z a y e first none_yet pos fy ge = go (ltb a (z.n - y.cursor)) refl
  where
    go : (t : Bool) → ltb a (z.n - y.cursor) ≡ t → Holds (Again M z a y e) (elim t [ true ↦ ok (whole 0 y.cursor, bump y a, e) | false ↦ place_new z a e >>= λ r. ok (whole 1 r.0, y, r.1) ])
    go true q =
        let l : a < z.n - y.cursor = ltb-true a (z.n - y.cursor) q in
        such (record {
          young = bump-fit z y a pos l fy;
          old = ge;
          colls = refl;
          proms = refl;
          cells = refl;
          old-colls = refl;
          given = inl (omega arith, ap (whole 0) first, omega arith, rw (none_yet, first), refl);
          from = λ p m. m;
        })
    go false q =
        bind {P = λ r. Good M z r.1 × PutBy (replicate a blank) e r × Room z a e} _
        (bind _ (room-is z a e ge) (λ _ o.
        weaken (both (put-good z (replicate a blank) e (valid-blank a) ge (rw length-replicate o)) (put_is (replicate a blank) e)) (λ r g.
        (g.0, g.1, o))))
        (λ r g.
        such (record {
          young = fy;
          old = g.0;
          colls = refl;
          proms = refl;
          cells = refl;
          old-colls = g.1.colls;
          given = inr (omega (arith, ltb-false a (z.n - y.cursor) q), ap (whole 1) g.1.base, omega (arith, g.2.base, ge.slots), first, none_yet, g.1.slots);
          from = λ p m. ⊎_elim (λ k. k) (λ k. absurd (blank-only a p k)) (set-from e.slots (held e.slots) (replicate a blank) (rw g.1.slots at m));
        }))

-- what an answer of alloc leaves
pub record Told (M : Type 0) (h : Heap) (roots : List Cell) (r : Allocation) : Type 0 where
  pub good : GoodHeap M r.heap
  pub same_size : r.heap.size ≡ h.size
  pub roots-valid : Valid r.roots
  pub roots-length : length r.roots ≡ length roots

module _ (M : Type 0) (h : Heap) (roots : List Cell) (fit : GoodHeap M h) where
  abbrev Member : Ptr → Type 0
  Member = Least (YoungStart h roots) (YoungLeads h.young)

  abbrev members : List Ptr
  members = young_members h.young roots (masks h.old.bar)

  same_length : length h.young.lens ≡ length h.young.cells
  same_length = fit.young.lens ∙ sym fit.young.cells

  exact : Exact (YoungStart h roots) (YoungLeads h.young) members
  exact = young-exact h roots same_length

  own_in : (p : Ptr) → Member p → p.heap ≡ 0 → Memᴰ p (survivors members)
  unfolding survivors in_heap
  own_in p l e = sort-in (keep_if (in_heap 0) members) p (keep_if-in (in_heap 0) (exact.complete p l) (rw e (eqb_same 0)))

  own_out : (p : Ptr) → Memᴰ p (survivors members) → Member p × (p.heap ≡ 0)
  unfolding survivors in_heap
  own_out p m = let k = keep_if-out (in_heap 0) members (sort-out (keep_if (in_heap 0) members) p m) in (exact.sound p k.0, eqb-true p.heap 0 k.1)

  -- an elder cell that holds an allocated nursery base, at offset zero, is counted, so a mask matches it
  held-member : M → (p : Ptr) → Memᴰ (ref p) (flat h.old.slots) → p.heap ≡ 0 → p.off ≡ 0 → 0 < get_or h.young.lens p.base 0 → Member p
  held-member on p m e o b = begin (inr (e, o, b, (p.base % 256, omega (arith, tally-pos p e m, fit.old.fits.covers on (p.base % 256) (low_byte p.base)), low_mask p.base)))

  -- the nursery pointers in a member's allocation are members
  part-member : (p q : Ptr) → Member q → Memᴰ (ref p) (part h.young q.base) → p.heap ≡ 0 → Member p
  unfolding part
  part-member p q l m e = next l (e, part_out (get_or h.young.lens q.base 0) q.base h.young.cells blank m)

  -- what the steps of the call come to
  module _ (a : ℕ) (c : List Ptr × Nursery) (cb : CollectedBy h.size h.young members c) (v : Moving) (mv : Made h roots fit.young M (survivors members) false [] v)
      (g : Ptr × Nursery × Elder) (ag : Again M h.size a c.1 v.elder g) (r : Nursery × Elder × List Cell) (sw : Swapped M h.size (moves_of v.steps) (g.1, g.2, roots) r) where
    abbrev ms : List (Ptr × ℕ)
    ms = moves_of v.steps

    moved-own : sources ms ≡ survivors members
    moved-own = sym (append-nil (sources ms)) ∙ mv.done

    young : Young ms
    unfolding sources
    young m k = (own_out m.0 (rw moved-own at (map-in (λ (x : Ptr × ℕ). x.0) k))).1

    -- a member that is the nursery's was moved
    not_left : (p : Ptr) → Member p → p.heap ≡ 0 → ((m : Ptr × ℕ) → Memᴰ m ms → p ≢ m.0) → ⊥
    unfolding sources
    not_left p l e f = let k = map-out (λ (x : Ptr × ℕ). x.0) ms (rw (← moved-own) at (own_in p l e)) in f k.0 k.1 k.2

    roots_changed : AllChanged ms roots r.2
    roots_changed = rw sw.roots (all_changed ms young roots)

    elder_changed : (b : ℕ) → AllChanged ms (get_or g.2.slots b []) (get_or r.1.slots b [])
    elder_changed b = rw (sw.slots, get_or-map (map (swapped ms)) g.2.slots b []) (all_changed ms young (get_or g.2.slots b []))

    no_root : (p : Ptr) → Memᴰ (ref p) r.2 → p.heap ≢ 0
    no_root p m e = let k = left ms roots r.2 roots_changed p e m in not_left p (begin (inl k.0)) e k.1

    elder_cells : M → (p : Ptr) → Memᴰ (ref p) (flat r.1.slots) → p.heap ≡ 0
        → Memᴰ (ref p) (flat h.old.slots) × ((p.off ≢ 0) ⊎ (get_or h.young.lens p.base 0 ≡ 0))
    elder_cells on p m e = go (mv.from (ref p) (ag.from p k.0))
      where
        k : Memᴰ (ref p) (flat g.2.slots) × ((x : Ptr × ℕ) → Memᴰ x ms → p ≢ x.0)
        k = left ms (flat g.2.slots) (flat r.1.slots) (rw (sw.slots, flat_map (swapped ms) g.2.slots) (all_changed ms young (flat g.2.slots))) p e m

        why : Memᴰ (ref p) (flat h.old.slots) → Dec (p.off ≡ 0) → (n : ℕ) → get_or h.young.lens p.base 0 ≡ n → (p.off ≢ 0) ⊎ (get_or h.young.lens p.base 0 ≡ 0)
        why f (no x) n q = inl x
        why f (yes o) zero q = inr q
        why f (yes o) (suc n) q = absurd (not_left p (held-member on p f e o (rw q (omega arith))) e k.1)

        go : Memᴰ (ref p) (flat h.old.slots) ⊎ ((q : Ptr) × Memᴰ q (survivors members) × Memᴰ (ref p) (part h.young q.base))
            → Memᴰ (ref p) (flat h.old.slots) × ((p.off ≢ 0) ⊎ (get_or h.young.lens p.base 0 ≡ 0))
        go (inl f) = (f, why f (ℕ_discrete p.off 0) (get_or h.young.lens p.base 0) refl)
        go (inr q) = absurd (not_left p (part-member p q.0 (own_out q.0 q.1).0 q.2 e) e k.1)

    same-cells : g.1.cells ≡ h.young.cells
    unfolding emptied
    same-cells = ag.cells ∙ ap (λ (y : Nursery). y.cells) cb.after

    nursery_changed : AllChanged ms (take r.0.cursor h.young.cells) (take r.0.cursor r.0.cells)
    nursery_changed =
        let now : take g.1.cursor r.0.cells ≡ map (swapped ms) (take g.1.cursor h.young.cells) = sw.below ∙ ap (λ (l : List Cell). map (swapped ms) (take g.1.cursor l)) same-cells in
        subst (λ (n : ℕ). AllChanged ms (take n h.young.cells) (take n r.0.cells)) (sym sw.cursor)
        (subst (λ (l : List Cell). AllChanged ms (take g.1.cursor h.young.cells) l) (sym now) (all_changed ms young (take g.1.cursor h.young.cells)))

    nursery_kept : drop r.0.cursor r.0.cells ≡ drop r.0.cursor h.young.cells
    nursery_kept =
        subst (λ (n : ℕ). drop n r.0.cells ≡ drop n h.young.cells) (sym sw.cursor)
        (sw.above ∙ ap (drop g.1.cursor) same-cells)

    answered : Allocation
    answered = record { heap = record { size = h.size; young = r.0; old = r.1 }; roots = r.2; ptr = g.0; collections = 1; members = c.0; steps = v.steps }

    collected : M → Collected h roots a answered
    unfolding answered emptied survivors
    collected on = record {
      no_root = no_root;
      elder_cells = elder_cells on;
      moved = λ p. (λ m. own_out p (rw moved-own at m), λ l. rw moved-own (own_in p l.0 l.1));
      moved_once = rw moved-own (sort-once (keep_if (in_heap 0) members) (keep_if-once (in_heap 0) members exact.once));
      in_order = rw moved-own (sort_sorted (keep_if (in_heap 0) members));
      visits = rw cb.members exact;
      few = rw cb.members (rw fit.young.cells at (young-few h.young roots (masks h.old.bar) same_length));
      met = v.elder;
      steps = mv.chain;
      given = g.2.slots;
      new = subst₂ (λ (n : ℕ) (l : List ℕ). Given h.size a g.0 (record { cursor = n; colls = r.0.colls; proms = r.0.proms; bar = r.0.bar; lens = l; cells = r.0.cells }) v.elder.slots g.2.slots) (sym sw.cursor) (sym sw.lens) ag.given;
      elder_changed = elder_changed;
      roots_changed = roots_changed;
      nursery_changed = nursery_changed;
      nursery_kept = nursery_kept;
      nursery_collections = sw.colls ∙ ag.colls ∙ ap (λ (y : Nursery). y.colls) cb.after;
      promotions = rw cb.members (sw.proms ∙ ag.proms ∙ ap (λ (y : Nursery). y.proms) cb.after);
      elder_collections = sw.old-colls ∙ ag.old-colls ∙ mv.colls;
    }

  emptied-cursor : (c : List Ptr × Nursery) → CollectedBy h.size h.young members c → c.1.cursor ≡ 0
  unfolding emptied
  emptied-cursor c cb = ap (λ (y : Nursery). y.cursor) cb.after

  emptied-lens : (c : List Ptr × Nursery) → CollectedBy h.size h.young members c → c.1.lens ≡ replicate h.size.n 0
  unfolding emptied
  emptied-lens c cb = ap (λ (y : Nursery). y.lens) cb.after ∙ ap (λ (n : ℕ). replicate n 0) fit.young.lens

  moves-of : (ps : List Ptr) → ps ≡ members → Holds (Made h roots fit.young M (survivors members) false []) (each (move_one h.size h.young roots (masks h.young.bar)) (survivors ps) (record { elder = h.old; steps = [] }))
  moves-of ps e = rw e (moves h roots fit.young M (survivors members) fit.old)

  pub collect-told : (a : ℕ) → 0 < a → Valid roots → Holds (λ r. Told M h roots r × (r.collections ≡ 1) × (M → Collected h roots a r)) (collect_and_alloc h roots a)
  unfolding collect_and_alloc answered
  collect-told a pos valid =
      bind _ (collect-young h.size h.young roots (masks h.old.bar) fit.young) (λ c cb.
      bind _ (moves-of c.0 cb.members) (λ v mv.
      bind _ (again M h.size a c.1 v.elder (emptied-cursor c cb) (emptied-lens c cb) pos cb.fit mv.good) (λ g ag.
      bind _ (swaps M h.size (moves_of v.steps) (g.1, g.2, roots) ag.young ag.old valid) (λ r sw.
      such (
        record {
          good = record { sizes = fit.sizes; young = sw.young; old = sw.old };
          same_size = refl;
          roots-valid = sw.roots-valid;
          roots-length = ap length sw.roots ∙ length-map roots (swapped (moves_of v.steps));
        },
        refl,
        collected a c cb v mv g ag r sw,
      )))))
