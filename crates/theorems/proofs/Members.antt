-- The members of a collection are the least set, and few enough.
use mathlib.Core.Path.{◌≡◌, refl, ap}
use mathlib.Core.Bool.{true, ◌&&◌}
use mathlib.Core.Logic.{◌↔◌, ◌≢◌, ⊎_elim, ⊎_map}
use mathlib.Core.List.Memᴰ
use mathlib.Core.List.{List, [], ◌∷◌, ◌++◌, map, Memᴰ}
use Prim.Native.Nat.{ℕ, zero, suc, ◌+◌, ◌*◌, ◌≤◌, ◌<◌, zero-le, suc-le-suc}
use native.Mathlib.Nat.{le_step, le_trans, zero-add}
use native.Mathlib.Omega.{arith}
use lib.Dec.{eqb}
use lib.ListN.{length, get_or, drop, length-append, length-map, get_or-map}
use Rattle.model.specs.Lists.{keep_if, flat, places}
use Rattle.model.specs.Reach.{Exact, enter, walk, closure}
use Rattle.model.specs.Records.{Ptr, Cell, plain, ref, blank, whole, same_ptr, in_heap, pointers, pointers_to}
use Rattle.model.specs.Barrier.{Barrier, masks, matches}
use Rattle.model.specs.Heap.{Nursery, Elder, Heap, part, in_use}
use Rattle.model.specs.Nursery.{matched, young_start, young_step, young_members}
use Rattle.model.specs.Elder.{old_start, old_step, old_members}
use Rattle.model.specs.Demand.{Remembered, Start, YoungStart, YoungLeads, OldStart, OldLeads}
use Rattle.theorems.proofs.Reach.{Sub, ExactBy, exact-map, closure-exact, exact-fits}
use borrow.Author.Tests.{eqb-true}
use Rattle.theorems.proofs.Lists.{and_left, and_right, eqb_same, keep_if-length, keep_if-in, keep_if-out, take_in, drop-in, flat_in, places-length, places-in, places-out}
use Rattle.theorems.proofs.Contents.{map-in, map-out, mem-at, at_mem, part_in, part_out}
use Rattle.theorems.proofs.Masks.{remembered}

pub same_ptr-eq : (p q : Ptr) → same_ptr p q ≡ true → p ≡ q
unfolding same_ptr
same_ptr-eq p q e =
    let ab = and_left (eqb p.heap q.heap && eqb p.base q.base) (eqb p.off q.off) e in
    let h = eqb-true p.heap q.heap (and_left (eqb p.heap q.heap) (eqb p.base q.base) ab) in
    let b = eqb-true p.base q.base (and_right (eqb p.heap q.heap) (eqb p.base q.base) ab) in
    let o = eqb-true p.off q.off (and_right (eqb p.heap q.heap && eqb p.base q.base) (eqb p.off q.off) e) in
    λ i. record { heap = h i; base = b i; off = o i }

pub same_ptr-refl : (p : Ptr) → same_ptr p p ≡ true
unfolding same_ptr
same_ptr-refl p = rw (eqb_same p.heap, eqb_same p.base, eqb_same p.off)

-- the pointers of a list of cells are those that its cells hold

pub pointers-length : (cs : List Cell) → length (pointers cs) ≤ length cs
unfolding pointers
pointers-length [] = zero-le
pointers-length (plain k v ∷ cs) = le_step (pointers-length cs)
pointers-length (ref p ∷ cs) = suc-le-suc (pointers-length cs)

pub pointers-in : {p : Ptr} (cs : List Cell) → Memᴰ (ref p) cs → Memᴰ p (pointers cs)
unfolding pointers
pointers-in [] m = absurd (Memᴰ.not-nil m)
pointers-in (plain k v ∷ cs) m = ⊎_elim (λ e. let z : ◌≡◌ {A = ℕ} 0 1 = cc in absurd (omega arith)) (λ n. pointers-in cs n) (Memᴰ.cases_cons m)
pointers-in (ref q ∷ cs) m = ⊎_elim (λ e. Memᴰ.head (cc)) (λ n. Memᴰ.tail (pointers-in cs n)) (Memᴰ.cases_cons m)

pub pointers-out : {p : Ptr} (cs : List Cell) → Memᴰ p (pointers cs) → Memᴰ (ref p) cs
unfolding pointers
pointers-out [] m = absurd (Memᴰ.not-nil m)
pointers-out (plain k v ∷ cs) m = Memᴰ.tail (pointers-out cs m)
pointers-out (ref q ∷ cs) m = ⊎_elim (λ e. Memᴰ.head (ap ref e)) (λ n. Memᴰ.tail (pointers-out cs n)) (Memᴰ.cases_cons m)

pub pointers_to-sub : (h : ℕ) (cs bs : List Cell) → Sub cs bs → Sub (pointers_to h cs) (pointers_to h bs)
unfolding pointers_to
pointers_to-sub h cs bs s p m =
    let k = keep_if-out (in_heap h) (pointers cs) m in
    keep_if-in (in_heap h) (pointers-in bs (s (ref p) (pointers-out cs k.0))) k.1

pointers_to-length : (h : ℕ) (cs : List Cell) → length (pointers_to h cs) ≤ length cs
unfolding pointers_to
pointers_to-length h cs = le_trans (keep_if-length (in_heap h) (pointers cs)) (pointers-length cs)

matched-length : (own : ℕ) (ms bs : List ℕ) → length (matched own ms bs) ≤ length bs
unfolding matched
matched-length own ms bs = rw length-map (keep_if-length (matches ms) bs)

-- Starts and steps of the walk are those of document 01's words

module _ (own : ℕ) (roots : List Cell) (other : Barrier) (lens : List ℕ) where
  abbrev begins : List Ptr
  begins = pointers roots ++ matched own (masks other) (places 0 lens)

  starts : (p : Ptr) → Memᴰ p begins ↔ Start own (λ b. 0 < get_or lens b 0) roots other p
  unfolding matched whole
  starts p = (λ m. ⊎_map (pointers-out roots) out (Memᴰ.append_cases (pointers roots) m), λ s. ⊎_elim (λ m. Memᴰ.append_left _ (pointers-in roots m)) (λ m. Memᴰ.append_right (pointers roots) (within m)) s)
    where
      Matching : Type 0
      Matching = (p.heap ≡ own) × (p.off ≡ 0) × (0 < get_or lens p.base 0) × Remembered other p.base

      out : Memᴰ p (map (whole own) (keep_if (matches (masks other)) (places 0 lens))) → Matching
      out m =
          let r = map-out (whole own) (keep_if (matches (masks other)) (places 0 lens)) m in
          let k = keep_if-out (matches (masks other)) (places 0 lens) r.1 in
          let l = places-out lens 0 r.0 k.0 in
          let e : r.0 ≡ l.0 = omega (arith, l.1) in
          let b : p.base ≡ r.0 = ap (λ (q : Ptr). q.base) r.2 in
          (ap (λ (q : Ptr). q.heap) r.2, ap (λ (q : Ptr). q.off) r.2, rw (b, e) l.2, rw b ((remembered other r.0).0 k.1))

      within : Matching → Memᴰ p (map (whole own) (keep_if (matches (masks other)) (places 0 lens)))
      within m =
          let same : p ≡ whole own p.base = λ i. record { heap = m.0 i; base = p.base; off = m.1 i } in
          Memᴰ.cast same (map-in (whole own) (keep_if-in (matches (masks other)) (rw zero-add at (places-in lens 0 p.base m.2)) ((remembered other p.base).1 m.3)))

pointers_to-is : (h : ℕ) (cs : List Cell) (q : Ptr) → Memᴰ q (pointers_to h cs) ↔ ((q.heap ≡ h) × Memᴰ (ref q) cs)
unfolding pointers_to in_heap
pointers_to-is h cs q = (
  λ m. let k = keep_if-out (in_heap h) (pointers cs) m in (eqb-true q.heap h k.1, pointers-out cs k.0),
  λ m. keep_if-in (in_heap h) (pointers-in cs m.1) (rw m.0 (eqb_same h)),
)

pub blank-no-ref : (q : Ptr) → blank ≢ ref q
unfolding blank
blank-no-ref q e = let z : ◌≡◌ {A = ℕ} 0 1 = cc in omega arith

young-leads : (y : Nursery) (p q : Ptr) → Memᴰ q (young_step y p) ↔ YoungLeads y p q
unfolding young_step part
young-leads y p q =
    let is = pointers_to-is 0 (part y p.base) q in (
      λ m. let k = is.0 m in (k.0, part_out (get_or y.lens p.base 0) p.base y.cells blank k.1),
      λ l. is.1 (l.0, part_in (get_or y.lens p.base 0) p.base y.cells blank l.1.0 l.1.1 l.1.2 (blank-no-ref q)),
    )

old-leads : (e : Elder) (p q : Ptr) → Memᴰ q (old_step e p) ↔ OldLeads e p q
unfolding old_step
old-leads e p q =
    let s = get_or e.slots p.base [] in
    let is = pointers_to-is 1 s q in
    (λ m. let k = is.0 m in let a = mem-at blank k.1 in (k.0, (a.0, a.1, a.2)), λ l. is.1 (l.0, at_mem s l.1.0 blank l.1.1 l.1.2))

-- the nursery: at most R + 2N

module _ (y : Nursery) (roots : List Cell) (ms : List ℕ) where
  all-young : List Ptr
  all-young = young_start y roots ms ++ pointers_to 0 y.cells

  all-young-length : length y.lens ≡ length y.cells → length all-young ≤ length roots + 2 * length y.cells
  unfolding all-young young_start
  all-young-length e =
      simp length-append (omega (arith, pointers-length roots, matched-length 0 ms (places 0 y.lens), places-length y.lens 0, pointers_to-length 0 y.cells))

  young-step-in : (p : Ptr) → Sub (young_step y p) all-young
  unfolding all-young young_step part
  young-step-in p x m =
      Memᴰ.append_right (young_start y roots ms)
      (pointers_to-sub 0 (part y p.base) y.cells (λ c k. drop-in p.base y.cells c (take_in (get_or y.lens p.base 0) (drop p.base y.cells) c k)) x m)

  young-start-in : Sub (young_start y roots ms) all-young
  unfolding all-young
  young-start-in x m = Memᴰ.append_left (pointers_to 0 y.cells) m

  walk-young : length y.lens ≡ length y.cells → ExactBy (young_step y) (young_start y roots ms) (young_members y roots ms)
  unfolding young_members
  walk-young e = closure-exact same_ptr same_ptr-eq same_ptr-refl (young_step y) (young_start y roots ms) all-young young-start-in young-step-in (length roots + 2 * length y.cells) (all-young-length e)

  pub young-few : length y.lens ≡ length y.cells → length (young_members y roots ms) ≤ length roots + 2 * length y.cells
  young-few e = le_trans (exact-fits same_ptr same_ptr-eq same_ptr-refl (young_step y) (young_start y roots ms) all-young young-start-in young-step-in (young_members y roots ms) (walk-young e)) (all-young-length e)

-- the elder: at most R + S + C

module _ (e : Elder) (roots : List Cell) (ms : List ℕ) where
  all_old : List Ptr
  all_old = old_start e roots ms ++ pointers_to 1 (flat e.slots)

  all-old-length : length all_old ≤ length roots + length e.slots + in_use e.slots
  unfolding all_old old_start in_use
  all-old-length =
      simp length-append (omega (arith, pointers-length roots, matched-length 1 ms (places 0 (map length e.slots)), places-length (map length e.slots) 0, length-map e.slots length, pointers_to-length 1 (flat e.slots)))

  old-step-in : (p : Ptr) → Sub (old_step e p) all_old
  unfolding all_old old_step
  old-step-in p x m = Memᴰ.append_right (old_start e roots ms) (pointers_to-sub 1 (get_or e.slots p.base []) (flat e.slots) (flat_in e.slots p.base) x m)

  old-start-in : Sub (old_start e roots ms) all_old
  unfolding all_old
  old-start-in x m = Memᴰ.append_left (pointers_to 1 (flat e.slots)) m

  walk-old : ExactBy (old_step e) (old_start e roots ms) (old_members e roots ms)
  unfolding old_members
  walk-old = closure-exact same_ptr same_ptr-eq same_ptr-refl (old_step e) (old_start e roots ms) all_old old-start-in old-step-in (length roots + length e.slots + in_use e.slots) all-old-length

  pub old-few : length (old_members e roots ms) ≤ length roots + length e.slots + in_use e.slots
  old-few = le_trans (exact-fits same_ptr same_ptr-eq same_ptr-refl (old_step e) (old_start e roots ms) all_old old-start-in old-step-in (old_members e roots ms) walk-old) all-old-length

-- the walks make the least sets

pub young-exact : (h : Heap) (roots : List Cell) → length h.young.lens ≡ length h.young.cells → Exact (YoungStart h roots) (YoungLeads h.young) (young_members h.young roots (masks h.old.bar))
unfolding young_start
young-exact h roots e = exact-map (starts 0 roots h.old.bar h.young.lens) (young-leads h.young) (walk-young h.young roots (masks h.old.bar) e)

pub old-exact : (h : Heap) (roots : List Cell) (e : Elder) → Exact (OldStart h roots e) (OldLeads e) (old_members e roots (masks h.young.bar))
unfolding old_start
old-exact h roots e = exact-map begun (old-leads e) (walk-old e roots (masks h.young.bar))
  where
    begun : (p : Ptr) → Memᴰ p (old_start e roots (masks h.young.bar)) ↔ OldStart h roots e p
    begun p = rw (get_or-map length e.slots p.base []) at (starts 1 roots h.young.bar (map length e.slots) p)

-- without roots and masks there is no member

none-matched : (own : ℕ) (bs : List ℕ) → matched own [] bs ≡ []
unfolding matched keep_if matches
none-matched own [] = refl
none-matched own (b ∷ bs) = none-matched own bs

none-walked : (step : Ptr → List Ptr) (k : ℕ) → closure same_ptr step k [] ≡ []
unfolding closure walk enter
none-walked step zero = refl
none-walked step (suc k) = refl

pub no-young : (y : Nursery) → young_members y [] [] ≡ []
unfolding young_members young_start pointers
no-young y = rw (none-matched 0 (places 0 y.lens)) (none-walked (young_step y) _)

pub no_old : (e : Elder) → old_members e [] [] ≡ []
unfolding old_members old_start pointers
no_old e = rw (none-matched 1 (places 0 _)) (none-walked (old_step e) _)
