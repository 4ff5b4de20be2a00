-- What the turns are at each number of generations left, and what they keep.
use mathlib.Core.Path.{◌≡◌, refl, sym, ap, ◌∙◌}
use mathlib.Core.Bool.{Bool, true, false}
use mathlib.Core.Logic.{⊎_elim}
use mathlib.Core.List.Memᴰ
use mathlib.Core.List.{List, [], ◌∷◌, Memᴰ}
use Prim.Native.Nat.{ℕ, suc, ◌+◌, ◌*◌, ◌≤◌, ◌<◌}
use native.Mathlib.Omega.{arith}
use lib.Dec.{ltb, leb}
use lib.ListN.{length, get_or}
use borrow.Author.Tests.{ltb-true, eqb-true}
use Rattle.model.specs.Lists.{cons_if, keep_if}
use Rattle.model.specs.Res.{Res, ok, refuse, ◌>>=◌, ask}
use Rattle.model.specs.Records.{Ptr, Cell, whole, in_heap}
use Rattle.model.specs.Barrier.{most}
use Rattle.model.specs.Heap.{Nursery, Elder, Heap}
use Rattle.model.specs.Nursery.{young_members, survivors, all_allocated, emptied, collect_young, before, insert, sort}
use Rattle.model.specs.Elder.{collect_old, old_members, sweep, place, place_new}
use Rattle.theorems.specs.Holds.{Holds, such, none}
use Rattle.theorems.specs.Fit.{Fit}
use Rattle.theorems.specs.Does.{with_old, with_young}
use Rattle.theorems.proofs.Lists.{and_left, and_right, keep_if-out}
use Rattle.theorems.proofs.Members.{young-few, old-few}
use Rattle.theorems.proofs.Sort.{sort-out}
use Rattle.theorems.proofs.Res.{bind}
use Rattle.elder.specs.Steps.{collect_step, place_step, blank_step}
use Rattle.nursery.specs.Steps as nursery
use Rattle.cycle.specs.declared.turns.Request.{Request}
use Rattle.cycle.specs.declared.turns.Request.TheVariants.{New, Move}
use Rattle.cycle.specs.Turns.{Turn, at, in_elder, give, give_in, must_collect, also_swept, sweep_and_give, elder_turn, again_turn, push_turn, turn, pick}

module _ (parts : ℕ → List Cell) (roots : List Cell) (ms : List ℕ) (what : Request) (h : Heap) where
  give-last : give_in parts what 1 h ≡ give parts what h
  unfolding give_in
  give-last = go what
    where
      go : (q : Request) → give_in parts q 1 h ≡ give parts q h
      go (New a) = refl
      go (Move b) = refl

  -- the elder alone is left and was collected, or need not be

  pub turn_last : turn parts roots ms what 1 true h ≡ give parts what h
  unfolding turn must_collect
  turn_last = give-last

  pub turn-elder : turn parts roots ms what 1 false h ≡ elder_turn parts roots ms what h
  unfolding turn elder_turn push_turn
  turn-elder = ap (pick (must_collect what 1 false h) (sweep_and_give parts roots ms what h)) give-last

  pub turn-again : turn parts roots ms what 2 true h ≡ again_turn parts roots ms what h
  unfolding turn again_turn push_turn
  turn-again = refl

  pub push-collected : (left : ℕ) → push_turn parts roots ms what left true h ≡ give parts what h
  unfolding push_turn
  push-collected left = refl

-- sizes stay, and an elder's turn collects it at most once

pub record Small (h : Heap) (r : ℕ) (x : Turn × Heap) : Type 0 where
  pub sizes : x.1.size ≡ h.size
  pub sweeps : x.0.sweeps ≤ 1
  pub entered : x.0.entered ≤ r + h.size.s + h.size.c

module _ (parts : ℕ → List Cell) (roots : List Cell) (ms : List ℕ) where
  give-small : (what : Request) (h : Heap) (r : ℕ) → Holds (Small h r) (give parts what h)
  unfolding give blank_step place_step in_elder at with_old
  give-small what h r = go what
    where
      placed : (m : Res (ℕ × Elder)) → Holds (Small h r) ((m >>= λ x. ok (x.0, with_old x.1 h)) >>= in_elder)
      placed (ok x) = let k : Small h r (at (whole 1 x.0), with_old x.1 h) = record { sizes = refl; sweeps = omega arith; entered = omega arith } in such k
      placed (refuse q) = none

      go : (q : Request) → Holds (Small h r) (give parts q h)
      go (New a) = placed (place_new h.size a h.old)
      go (Move b) = placed (place h.size (parts b) h.old)

  abbrev pub Few : Heap → ℕ × Heap → Type 0
  Few h c = (c.1.size ≡ h.size) × (c.0 ≤ length roots + h.size.s + h.size.c)

  pub sweep-few : (h : Heap) → Fit h → Holds (Few h) (collect_step roots ms h)
  unfolding collect_step collect_old with_old
  sweep-few h f = go (ltb h.old.colls most) (sweep ps h.old)
    where
      ps : List Ptr
      ps = old_members h.old roots ms

      told : Elder → Res (List Ptr × Elder)
      told e = ok (ps, e)

      answer : List Ptr × Elder → Res (ℕ × Heap)
      answer r = ok (length r.0, with_old r.1 h)

      go : (b : Bool) (m : Res Elder) → Holds (Few h) ((ask 11 b >>= λ _. m >>= told) >>= answer)
      go true (ok e) = let k : length ps ≤ length roots + h.size.s + h.size.c = omega (arith, old-few h.old roots ms, f.old.slots, f.old.room) in such (refl, k)
      go true (refuse q) = none
      go false m = none

  sweep-small : (what : Request) (h : Heap) → Fit h → Holds (Small h (length roots)) (sweep_and_give parts roots ms what h)
  unfolding sweep_and_give also_swept
  sweep-small what h f =
      bind _ (sweep-few h f) (λ c k.
      bind _ (give-small what c.1 0) (λ x g.
      let j : Small h (length roots) (also_swept c.0 x.0, x.1) = record { sizes = g.sizes ∙ k.0; sweeps = omega arith; entered = k.1 } in
      such j))

  pub elder-small : (what : Request) (h : Heap) → Fit h → Holds (Small h (length roots)) (elder_turn parts roots ms what h)
  unfolding elder_turn
  elder-small what h f = go (must_collect what 1 false h)
    where
      go : (b : Bool) → Holds (Small h (length roots)) (pick b (sweep_and_give parts roots ms what h) (give parts what h))
      go true = sweep-small what h f
      go false = give-small what h (length roots)

-- the nursery's collection

all-allocated : (y : Nursery) (ps : List Ptr) → all_allocated y ps ≡ true → (p : Ptr) → Memᴰ p ps → 0 < get_or y.lens p.base 0
unfolding all_allocated
all-allocated y [] e p m = absurd (Memᴰ.not-nil m)
all-allocated y (q ∷ qs) e p m =
    ⊎_elim (λ f. rw f (ltb-true 0 (get_or y.lens q.base 0) (and_left (ltb 0 (get_or y.lens q.base 0)) (all_allocated y qs) e))) (λ k. all-allocated y qs (and_right (ltb 0 (get_or y.lens q.base 0)) (all_allocated y qs) e) p k) (Memᴰ.cases_cons m)

insert-length : (p : Ptr) (l : List Ptr) → length (insert p l) ≡ suc (length l)
unfolding insert
insert-length p [] = refl
insert-length p (q ∷ l) = go (before p q) (insert-length p l)
  where
    go : (t : Bool) → length (insert p l) ≡ suc (length l) → length {A = Ptr} (elim t [ true ↦ p ∷ q ∷ l | false ↦ q ∷ insert p l ]) ≡ suc (suc (length l))
    go true e = refl
    go false e = ap suc e

sort-length : (l : List Ptr) → length (sort l) ≡ length l
unfolding sort
sort-length [] = refl
sort-length (p ∷ l) = insert-length p (sort l) ∙ ap suc (sort-length l)

keep-length : (f : Ptr → Bool) (l : List Ptr) → length (keep_if f l) ≤ length l
unfolding keep_if
keep-length f [] = omega arith
keep-length f (p ∷ l) = go (f p) (keep-length f l)
  where
    go : (t : Bool) → length (keep_if f l) ≤ length l → length (cons_if t p (keep_if f l)) ≤ suc (length l)
    go true e = omega arith
    go false e = omega arith

-- survivors are few, in heap 0, and each has an allocation
pub record Survive (h : Heap) (r : ℕ) (ps : List Ptr) : Type 0 where
  pub few : length ps ≤ r + 2 * h.size.n
  pub young : (p : Ptr) → Memᴰ p ps → p.heap ≡ 0
  pub allocated : (p : Ptr) → Memᴰ p ps → 0 < get_or h.young.lens p.base 0

abbrev pub Survived : Heap → ℕ → (ℕ × List Ptr) × Heap → Type 0
Survived h r c = (c.1.size ≡ h.size) × Survive h r c.0.1

pub collected-survive : (roots : List Cell) (ms : List ℕ) (h : Heap) → Fit h → Holds (Survived h (length roots)) (nursery.collect_step roots ms h)
unfolding nursery.collect_step collect_young with_young survivors in_heap
collected-survive roots ms h f = go (ltb h.young.colls most) (all_allocated h.young (survivors ps)) refl (leb (h.young.proms + length ps) most)
  where
    ps : List Ptr
    ps = young_members h.young roots ms

    few : length (survivors ps) ≤ length roots + 2 * h.size.n
    few = omega (arith, sort-length (keep_if (in_heap 0) ps), keep-length (in_heap 0) ps, young-few h.young roots ms (f.young.lens ∙ sym f.young.cells), f.young.cells)

    young : (p : Ptr) → Memᴰ p (survivors ps) → p.heap ≡ 0
    young p m = eqb-true p.heap 0 (keep_if-out (in_heap 0) ps (sort-out (keep_if (in_heap 0) ps) p m)).1

    told : Res (List Ptr × Nursery)
    told = ok (ps, emptied h.young (length ps))

    answer : List Ptr × Nursery → Res ((ℕ × List Ptr) × Heap)
    answer c = ok ((length c.0, survivors c.0), with_young c.1 h)

    go : (a b : Bool) → all_allocated h.young (survivors ps) ≡ b → (c : Bool) → Holds (Survived h (length roots)) ((ask 11 a >>= λ _. ask 6 b >>= λ _. ask 11 c >>= λ _. told) >>= answer)
    go true true e true = let k : Survive h (length roots) (survivors ps) = record { few = few; young = young; allocated = all-allocated h.young (survivors ps) e } in such (refl, k)
    go true true e false = none
    go true false e c = none
    go false b e c = none
