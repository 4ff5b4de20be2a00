-- A turn keeps the sizes, and moves no more than there are survivors.
use mathlib.Core.Path.{◌≡◌, refl, ◌∙◌}
use mathlib.Core.Bool.{Bool, true, false}
use mathlib.Core.List.{List, [], ◌∷◌, ◌++◌}
use Prim.Native.Nat.{ℕ, ◌+◌, ◌*◌, ◌≤◌}
use native.Mathlib.Omega.{arith}
use lib.ListN.{length, length-append}
use Rattle.model.specs.Res.{Res, ok, refuse, ◌>>=◌}
use Rattle.model.specs.Records.{Ptr, Cell}
use Rattle.model.specs.Barrier.{masks}
use Rattle.model.specs.Heap.{Elder, Heap}
use Rattle.model.specs.Elder.{collect_old, place, place_new}
use Rattle.theorems.specs.Holds.{Holds, such, none as refused}
use Rattle.theorems.specs.Fit.{Fit}
use Rattle.theorems.specs.Does.{with_old, with_young}
use Rattle.theorems.proofs.Res.{bind, each_holds}
use Rattle.elder.specs.Steps.{collect_step, place_step, blank_step}
use Rattle.cycle.specs.declared.turns.Request.{Request}
use Rattle.cycle.specs.declared.turns.Request.TheVariants.{New, Move}
use Rattle.cycle.specs.Turns.{Turn, Pushed, pick, in_elder, give, bumped, give_in, must_collect, none, noted, finished, sweep_and_give, elder_turn, push_one, again_turn, collect_and_push, push_turn}
use Rattle.cycle.proofs.Turning.{collected-survive}

abbrev Same : {A : Type 0} → Heap → A × Heap → Type 0
Same h x = x.1.size ≡ h.size

module _ (parts : ℕ → List Cell) (roots : List Cell) (ms : List ℕ) where
  give-same : (what : Request) (h : Heap) → Holds (Same h) (give parts what h)
  unfolding give blank_step place_step in_elder with_old
  give-same what h = go what
    where
      placed : (m : Res (ℕ × Elder)) → Holds (Same h) ((m >>= λ x. ok (x.0, with_old x.1 h)) >>= in_elder)
      placed (ok x) = such refl
      placed (refuse q) = refused

      go : (q : Request) → Holds (Same h) (give parts q h)
      go (New a) = placed (place_new h.size a h.old)
      go (Move b) = placed (place h.size (parts b) h.old)

  collect-same : (h : Heap) → Holds (Same h) (collect_step roots ms h)
  unfolding collect_step with_old
  collect-same h = go (collect_old h.old roots ms)
    where
      go : (m : Res (List Ptr × Elder)) → Holds (Same h) (m >>= λ r. ok (length r.0, with_old r.1 h))
      go (ok r) = such refl
      go (refuse q) = refused

  elder-same : (what : Request) (h : Heap) → Holds (Same h) (elder_turn parts roots ms what h)
  unfolding elder_turn sweep_and_give
  elder-same what h = go (must_collect what 1 false h)
    where
      go : (b : Bool) → Holds (Same h) (pick b (sweep_and_give parts roots ms what h) (give parts what h))
      go true = bind _ (collect-same h) (λ c e. bind _ (give-same what c.1) (λ x f. such (f ∙ e)))
      go false = give-same what h

  again-same : (what : Request) (h : Heap) → Holds (Same h) (again_turn parts roots ms what h)
  unfolding again_turn give_in bumped with_young
  again-same what h = go (must_collect what 2 true h) what
    where
      go : (b : Bool) (q : Request) → Holds (Same h) (pick b (give parts q h) (give_in parts q 2 h))
      go true q = give-same q h
      go false (New a) = such refl
      go false (Move b) = give-same (Move b) h

  -- so many are left to push, of k in all
  abbrev Left : Heap → ℕ → List Ptr → Pushed × Heap → Type 0
  Left h k l m = Same h m × (length m.0.moves + length l ≡ k)

  push-left : (h : Heap) (k : ℕ) (p : Ptr) (l : List Ptr) (m : Pushed × Heap) → Left h k (p ∷ l) m → Holds (Left h k l) (push_one parts roots ms p m)
  unfolding push_one noted
  push-left h k p l m i =
      bind _ (elder-same (Move p.base) m.1) (λ x e.
      let n : length (m.0.moves ++ (p, x.0.ptr.base) ∷ []) + length l ≡ k = omega (arith, length-append m.0.moves ((p, x.0.ptr.base) ∷ []), i.1) in
      such (e ∙ i.0, n))

  abbrev pub Moved : Heap → Turn × Heap → Type 0
  Moved h x = Same h x × (length x.0.moves ≤ length roots + 2 * h.size.n)

  pub moved-few : (what : Request) (h : Heap) → Fit h → Holds (Moved h) (push_turn parts roots ms what 2 false h)
  unfolding push_turn collect_and_push none finished
  moved-few what h f =
      bind _ (collected-survive roots (masks h.old.bar) h f) (λ c e.
      bind _ (each_holds (Left h (length c.0.1)) (push_one parts roots ms) (push-left h (length c.0.1)) c.0.1 (none, c.1) (e.0, omega arith)) (λ m i.
      bind _ (again-same what m.1) (λ x g.
      let n : length m.0.moves ≤ length roots + 2 * h.size.n = omega (arith, i.1, e.1.few) in
      such (g ∙ i.0, n))))
