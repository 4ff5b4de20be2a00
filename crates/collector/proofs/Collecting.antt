-- The parts of a call that collects the nursery, done one after the other, are the model's alloc.
use mathlib.Core.Path.{◌≡◌, refl, sym, ap, ◌∙◌}
use mathlib.Core.Bool.{Bool, true, false, not}
use mathlib.Core.List.{List, [], ◌∷◌, ◌++◌, map, append-nil}
use Prim.Native.Nat.{ℕ, ◌+◌, ◌-◌}
use native.Mathlib.Nat.{add-zero}
use native.Mathlib.Omega.{arith}
use lib.Dec.{ltb, leb}
use lib.ListN.{length, length-append}
use Rattle.model.specs.Lists.{sum}
use Rattle.model.specs.Res.{Res, ok, refuse, ◌>>=◌, each}
use Rattle.model.specs.Records.{Ptr, Cell, whole}
use Rattle.model.specs.Barrier.{masks}
use Rattle.model.specs.Heap.{Nursery, Elder, Heap, part, held}
use Rattle.model.specs.Nursery.{bump, survivors, collect_young}
use Rattle.model.specs.Elder.{collect_old, place, place_new, Step, move, sweeping, Moving, collect_if_full, move_one, moves_of, sweeps_of}
use Rattle.model.specs.Collector.{Allocation, four_counts, swap_all, alloc_again, collect_and_alloc}
use Rattle.model.specs.Calls.{cells_in, allocated}
use Rattle.theorems.specs.Does.{with_young, with_old}
use Rattle.theorems.specs.Apart.{swap_both, swap_roots, with_roots}
use Rattle.theorems.proofs.Moves.{moves_of-append, sweeps_of-append}
use Rattle.theorems.proofs.Apart.{swaps-apart}
use Rattle.elder.specs.Steps.{collect_step, place_step, blank_step}
use Rattle.nursery.specs.Steps as nursery
use Rattle.pointers.specs.Steps.{with_both, changes_step}
use Rattle.cycle.specs.declared.turns.Request.TheVariants.{New, Move}
use Rattle.cycle.specs.Turns.{Turn, at, in_elder, give, bumped, too_large, pick, must_collect, give_in, Pushed, none, noted, finished, also_swept, sweep_and_give, elder_turn, push_one, again_turn, collect_and_push, push_turn}
use Rattle.collector.specs.Alloc.{work_step, work_outcome}

-- what the steps of moves come to

unfoldable counted : List Step → Pushed
counted l = record { moves = moves_of l; sweeps = length (sweeps_of l); entered = sum (map length (sweeps_of l)) }

entered-append : (l : List (List Ptr)) (ps : List Ptr) → sum (map length (l ++ ps ∷ [])) ≡ sum (map length l) + length ps
unfolding sum
entered-append [] ps = omega arith
entered-append (qs ∷ l) ps = omega (arith, entered-append l ps)

module _ (l : List Step) (p : Ptr) (b : ℕ) (x x' : Elder) where
  counted-move : counted (l ++ move p b x x' ∷ []) ≡ noted p (at (whole 1 b)) (counted l)
  unfolding counted noted at whole moves_of sweeps_of
  counted-move =
      let same : sweeps_of (l ++ move p b x x' ∷ []) ≡ sweeps_of l = sweeps_of-append l (move p b x x' ∷ []) ∙ append-nil (sweeps_of l) in
      λ i. record {
        moves = moves_of-append l (move p b x x' ∷ []) i;
        sweeps = (ap length same ∙ sym (add-zero (length (sweeps_of l)))) i;
        entered = (ap (λ (q : List (List Ptr)). sum (map length q)) same ∙ sym (add-zero (sum (map length (sweeps_of l))))) i;
      }

  counted-both : (ps : List Ptr) (u : Elder) → counted ((l ++ sweeping ps u x ∷ []) ++ move p b x x' ∷ []) ≡ noted p (also_swept (length ps) (at (whole 1 b))) (counted l)
  unfolding counted noted also_swept at whole moves_of sweeps_of
  counted-both ps u =
      let k : List Step = l ++ sweeping ps u x ∷ [] in
      let moved : moves_of k ≡ moves_of l = moves_of-append l (sweeping ps u x ∷ []) ∙ append-nil (moves_of l) in
      let same : sweeps_of (k ++ move p b x x' ∷ []) ≡ sweeps_of l ++ ps ∷ [] = sweeps_of-append k (move p b x x' ∷ []) ∙ append-nil (sweeps_of k) ∙ sweeps_of-append l (sweeping ps u x ∷ []) in
      λ i. record {
        moves = (moves_of-append k (move p b x x' ∷ []) ∙ ap (λ (m : List (Ptr × ℕ)). m ++ (p, b) ∷ []) moved) i;
        sweeps = (ap length same ∙ length-append (sweeps_of l) (ps ∷ [])) i;
        entered = (ap (λ (q : List (List Ptr)). sum (map length q)) same ∙ entered-append (sweeps_of l) ps) i;
      }

-- a survivor pushed is a move

abbrev pushed : Heap → Moving → Pushed × Heap
pushed h v = (counted v.steps, with_old v.elder h)

abbrev done : Heap → Moving → Res (Pushed × Heap)
done h v = ok (pushed h v)

module _ (y : Nursery) (roots : List Cell) (ms : List ℕ) (h : Heap) where
  module _ (p : Ptr) (v : Moving) where
    abbrev note : Turn × Heap → Res (Pushed × Heap)
    note x = ok (noted p x.0 (counted v.steps), x.1)

    abbrev also : ℕ → Turn × Heap → Res (Turn × Heap)
    also k x = ok (also_swept k x.0, x.1)

    abbrev moved : Moving → ℕ × Elder → Res Moving
    moved u r = ok (record { elder = r.1; steps = u.steps ++ move p r.0 u.elder r.1 ∷ [] })

    abbrev swept : List Ptr × Elder → Moving
    swept c = record { elder = c.1; steps = v.steps ++ sweeping c.0 v.elder c.1 ∷ [] }

    abbrev kept : Elder → ℕ × Elder → Res (ℕ × Heap)
    kept e r = ok (r.0, with_old r.1 (with_old e h))

    abbrev visited : List Ptr × Elder → Res (ℕ × Heap)
    visited c = ok (length c.0, with_old c.1 (with_old v.elder h))

    given : (n : Res (ℕ × Elder)) → (((n >>= kept v.elder) >>= in_elder) >>= note) ≡ ((n >>= moved v) >>= done h)
    unfolding with_old in_elder
    given (ok r) = ap (λ (m : Pushed). ok (m, with_old r.1 h)) (sym (counted-move v.steps p r.0 v.elder r.1))
    given (refuse q) = refl

    given-after : (c : List Ptr × Elder) (n : Res (ℕ × Elder)) → ((((n >>= kept c.1) >>= in_elder) >>= also (length c.0)) >>= note) ≡ ((n >>= moved (swept c)) >>= done h)
    unfolding with_old in_elder
    given-after c (ok r) = ap (λ (m : Pushed). ok (m, with_old r.1 h)) (sym (counted-both v.steps p r.0 c.1 r.1 c.0 v.elder))
    given-after c (refuse q) = refl

    push-one : push_one (part y) roots ms p (pushed h v) ≡ (move_one h.size y roots ms p v >>= done h)
    unfolding push_one elder_turn must_collect sweep_and_give give place_step collect_step with_old move_one collect_if_full
    push-one = go (leb h.size.t (held v.elder.slots))
      where
        collected : (n : Res (List Ptr × Elder))
            → (((n >>= visited) >>= λ c. give (part y) (Move p.base) c.1 >>= also c.0) >>= note)
            ≡ (((n >>= λ r. ok (swept r)) >>= λ u. place h.size (part y p.base) u.elder >>= moved u) >>= done h)
        collected (ok c) = given-after c (place h.size (part y p.base) c.1)
        collected (refuse q) = refl

        go : (t : Bool) → (pick t (sweep_and_give (part y) roots ms (Move p.base) (with_old v.elder h)) (give (part y) (Move p.base) (with_old v.elder h)) >>= note)
            ≡ ((elim t [ true ↦ (collect_old v.elder roots ms >>= λ r. ok (swept r)) | false ↦ ok v ] >>= λ u. place h.size (part y p.base) u.elder >>= moved u) >>= done h)
        go true = collected (collect_old v.elder roots ms)
        go false = given (place h.size (part y p.base) v.elder)

  push-all : (ps : List Ptr) (v : Moving) → each (push_one (part y) roots ms) ps (pushed h v) ≡ (each (move_one h.size y roots ms) ps v >>= done h)
  push-all [] v = refl
  push-all (p ∷ ps) v = ap (λ (n : Res (Pushed × Heap)). n >>= each (push_one (part y) roots ms) ps) (push-one p v) ∙ go (move_one h.size y roots ms p v) (λ u. push-all ps u)
    where
      go : (n : Res Moving) → ((u : Moving) → each (push_one (part y) roots ms) ps (pushed h u) ≡ (each (move_one h.size y roots ms) ps u >>= done h)) → ((n >>= done h) >>= each (push_one (part y) roots ms) ps) ≡ ((n >>= each (move_one h.size y roots ms) ps) >>= done h)
      go (ok u) later = later u
      go (refuse q) later = refl

-- the request again, in the emptied nursery or in the elder

abbrev given-at : Heap → Ptr × Nursery × Elder → Res (Turn × Heap)
given-at h g = ok (at g.0, record { size = h.size; young = g.1; old = g.2 })

module _ (parts : ℕ → List Cell) (roots : List Cell) (ms : List ℕ) (a : ℕ) (h : Heap) where
  again : again_turn parts roots ms (New a) h ≡ (alloc_again h.size a h.young h.old >>= given-at h)
  unfolding again_turn must_collect too_large give_in give bumped blank_step in_elder with_young with_old alloc_again
  again = go (ltb a (h.size.n - h.young.cursor))
    where
      kept-old : ℕ × Elder → Res (ℕ × Heap)
      kept-old r = ok (r.0, with_old r.1 h)

      at_old : ℕ × Elder → Res (Ptr × Nursery × Elder)
      at_old r = ok (whole 1 r.0, h.young, r.1)

      placed : (n : Res (ℕ × Elder)) → ((n >>= kept-old) >>= in_elder) ≡ ((n >>= at_old) >>= given-at h)
      placed (ok r) = refl
      placed (refuse q) = refl

      go : (t : Bool) → pick (not t) (give parts (New a) h) (bumped a h) ≡ (elim t [ true ↦ ok (whole 0 h.young.cursor, bump h.young a, h.old) | false ↦ (place_new h.size a h.old >>= at_old) ] >>= given-at h)
      go true = refl
      go false = placed (place_new h.size a h.old)

-- the whole call
module _ (w root_words : List ℕ) (h : Heap) (a : ℕ) where
  abbrev roots : List Cell
  roots = cells_in root_words

  abbrev change : Turn × Heap → Res (Turn × Heap)
  change x = changes_step x.0.moves x.1 >>= λ y. ok (x.0, y.1)

  module _ (c : List Ptr × Nursery) where
    abbrev emptied : Heap
    emptied = with_young c.1 h

    module _ (v : Moving) where
      abbrev answer : Ptr → Nursery × Elder × List Cell → Res Allocation
      answer p r = ok (record { heap = record { size = h.size; young = r.0; old = r.1 }; roots = r.2; ptr = p; collections = 1; members = c.0; steps = v.steps })

      abbrev finish : Turn × Heap → Res (Turn × Heap)
      finish x = ok (finished (length c.0) (counted v.steps) x.0, x.1)

      changed : (g : Ptr × Nursery × Elder) → allocated w root_words (each swap_all (moves_of v.steps) (g.1, g.2, roots) >>= answer g.0)
          ≡ work_outcome w root_words ((given-at emptied g >>= finish) >>= change)
      unfolding allocated four_counts work_outcome changes_step with_both with_roots with_young finished counted at
      changed g =
          ap (λ (n : Res (Nursery × Elder × List Cell)). allocated w root_words (n >>= answer g.0)) (swaps-apart (moves_of v.steps) g.1 g.2 roots)
          ∙ go (each swap_both (moves_of v.steps) (g.1, g.2))
        where
          after : Heap
          after = record { size = h.size; young = g.1; old = g.2 }

          go : (n : Res (Nursery × Elder)) → allocated w root_words ((n >>= with_roots (swap_roots (moves_of v.steps) roots)) >>= answer g.0)
              ≡ work_outcome w root_words ((n >>= with_both after) >>= λ y. ok (finished (length c.0) (counted v.steps) (at g.0), y.1))
          go (ok r) = refl
          go (refuse q) = refl

      tried : (n : Res (Ptr × Nursery × Elder)) → allocated w root_words (n >>= λ g. each swap_all (moves_of v.steps) (g.1, g.2, roots) >>= answer g.0)
          ≡ work_outcome w root_words (((n >>= given-at emptied) >>= finish) >>= change)
      unfolding allocated work_outcome
      tried (ok g) = changed g
      tried (refuse q) = refl

    abbrev allocate : Moving → Res Allocation
    allocate v = alloc_again h.size a c.1 v.elder >>= λ g. each swap_all (moves_of v.steps) (g.1, g.2, roots) >>= answer v g.0

    abbrev retry : Pushed × Heap → Res (Turn × Heap)
    retry m = again_turn (part h.young) roots (masks h.young.bar) (New a) m.1 >>= λ x. ok (finished (length c.0) m.0 x.0, x.1)

    moved_all : (n : Res Moving) → allocated w root_words (n >>= allocate) ≡ work_outcome w root_words (((n >>= done emptied) >>= retry) >>= change)
    unfolding allocated work_outcome with_young with_old
    moved_all (ok v) =
        tried v (alloc_again h.size a c.1 v.elder)
        ∙ ap (λ (n : Res (Turn × Heap)). work_outcome w root_words ((n >>= finish v) >>= change)) (sym (again (part h.young) roots (masks h.young.bar) a (with_old v.elder emptied)))
    moved_all (refuse q) = refl

    abbrev move_all : Res Moving
    move_all = each (move_one h.size h.young roots (masks h.young.bar)) (survivors c.0) (record { elder = h.old; steps = [] })

    pushed-all : allocated w root_words (move_all >>= allocate) ≡ work_outcome w root_words ((each (push_one (part h.young) roots (masks h.young.bar)) (survivors c.0) (none, emptied) >>= retry) >>= change)
    unfolding none counted moves_of sweeps_of sum with_young with_old
    pushed-all =
        moved_all move_all
        ∙ ap (λ (n : Res (Pushed × Heap)). work_outcome w root_words ((n >>= retry) >>= change)) (sym (push-all h.young roots (masks h.young.bar) emptied (survivors c.0) (record { elder = h.old; steps = [] })))

  abbrev survived : List Ptr × Nursery → Res ((ℕ × List Ptr) × Heap)
  survived c = ok ((length c.0, survivors c.0), with_young c.1 h)

  collects : allocated w root_words (collect_and_alloc h roots a) ≡ work_outcome w root_words (work_step (part h.young) roots a h)
  unfolding collect_and_alloc work_step push_turn collect_and_push nursery.collect_step allocated work_outcome
  collects = go (collect_young h.young roots (masks h.old.bar))
    where
      go : (n : Res (List Ptr × Nursery)) → allocated w root_words (n >>= λ c. move_all c >>= allocate c)
          ≡ work_outcome w root_words (((n >>= survived) >>= λ c. each (push_one (part h.young) roots (masks h.young.bar)) c.0.1 (none, c.1) >>= λ m.
          again_turn (part h.young) roots (masks h.young.bar) (New a) m.1 >>= λ x. ok (finished c.0.0 m.0 x.0, x.1)) >>= change)
      go (ok c) = pushed-all c
      go (refuse q) = refl

pub collect-is-work : (w root_words : List ℕ) (h : Heap) (a : ℕ) (parts : ℕ → List Cell) → ((b : ℕ) → parts b ≡ part h.young b)
    → allocated w root_words (collect_and_alloc h (cells_in root_words) a) ≡ work_outcome w root_words (work_step parts (cells_in root_words) a h)
collect-is-work w root_words h a parts e =
    let same : part h.young ≡ parts = λ i b. sym (e b) i in
    collects w root_words h a ∙ ap (λ (f : ℕ → List Cell). work_outcome w root_words (work_step f (cells_in root_words) a h)) same
