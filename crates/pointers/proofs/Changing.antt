-- A pointer changed in both generations, and many.
use mathlib.Core.Path.{◌≡◌, refl, sym, subst, ◌∙◌}
use mathlib.Core.List.{List, ◌∷◌, map}
use Prim.Native.Nat.{ℕ, zero, suc, ◌+◌, ◌-◌, ◌≤◌}
use native.Mathlib.Nat.{sub-zero}
use native.Mathlib.Omega.{arith}
use lib.ListN.{length, take}
use Rattle.std.proofs.Common.{Result, Ok, Err}
use Rattle.model.specs.Lists.{keep_if, flat}
use Rattle.model.specs.Res.{Res, ok, refuse, ◌>>=◌, each}
use Rattle.model.specs.Records.{Ptr, ref}
use Rattle.model.specs.Barrier.{Barrier}
use Rattle.model.specs.Heap.{Nursery, Elder, Heap}
use Rattle.model.specs.Image.{decode}
use Rattle.model.specs.Collector.{moved_to, holds, swap_cell, swap_young, swap_old}
use Rattle.theorems.specs.Holds.{Holds, such}
use Rattle.theorems.specs.Fit.{FitBarrier, Image}
use Rattle.theorems.specs.Does.{Meets, Does, with_young, with_old}
use Rattle.theorems.specs.Apart.{swap_both}
use Rattle.theorems.proofs.Barrier.{in-fit, out-fit}
use Rattle.theorems.proofs.Does.{answered as left-answered, does-then, does-refused, does-same}
use Rattle.theorems.proofs.Image.{image-decode}
use Rattle.theorems.proofs.Res.{bind, holds_at}
use Rattle.question.specs.Question.{number, answer, done_answer}
use Rattle.question.specs.declared.Question.{Question}
use Rattle.barrier.specs.declared.WriteBarrier.{WriteBarrier}
use Rattle.barrier.specs.Counts.{barrier_of}
use Rattle.trace.specs.Words.{tab}
use Rattle.trace.proofs.Entries.{tab-cons, tab-none}
use Rattle.layout.specs.Elder.{with_slots, Turned}
use Rattle.changes.specs.Changes.{times, count_change}
use Rattle.changes.proofs.Laws.{each-times, each-times-flat}
use Rattle.fields.specs.Fields.{Reads, Turns, on_young, with_bar, with_old_bar, bar_of, on_bar}
use Rattle.fields.proofs.Counts.{bar-fit, bar-same}
use Rattle.pointers.specs.Steps.{swapped_young, count_moved, young_step, old_step, with_both, change_step, changes_step, move_at, moves_in, moves_of}
use Rattle.pointers.proofs.Chunks.{pairs, Taken}

-- a step's answer, beside the heap that it leaves
abbrev left : Heap → Res (Unit {0} × Heap)
left h = ok (tt, h)

-- so many cells counted, on the barrier that `bar` finds and `put` replaces

module _ (own : ℕ) (m : Ptr × ℕ) where
  change-fit : (b : Barrier) → FitBarrier b → Holds FitBarrier (count_change own m b)
  unfolding count_change
  change-fit b f = bind _ (out-fit own (ref m.0) b f) (λ d g. in-fit own (ref (moved_to m)) d g)

  times-fit : (k : ℕ) (b : Barrier) → FitBarrier b → Holds FitBarrier (times k (count_change own m) b)
  unfolding times
  times-fit zero b f = such f
  times-fit (suc k) b f = bind _ (change-fit b f) (λ d g. times-fit k d g)

  module _ (k : ℕ) where
    pub count_none : {w : List ℕ} → k ≡ 0 → Does (count_moved own k m) w (ok tt) w
    unfolding count_moved times
    count_none none = record { does = λ h i. rw (none, bar-same own h) (refl, i) }

    module _ {w : List ℕ} {b : Barrier} (r : Result WriteBarrier Question) (s : Reads (λ h. bar_of own h) w b) (e : answer barrier_of r ≡ times k (count_change own m) b) where
      given : (h : Heap) → Image w h → answer barrier_of r ≡ times k (count_change own m) (bar_of own h)
      given h i = rw (s.reads h i) e

      module _ (d : WriteBarrier) (done : r ≡ Ok d) where
        answered : (h : Heap) → Image w h → times k (count_change own m) (bar_of own h) ≡ ok (barrier_of d)
        answered h i = sym (given h i) ∙ rw done

        pub count-fit : Image w (decode w) → FitBarrier (barrier_of d)
        count-fit i = holds_at (times-fit k (bar_of own (decode w)) (bar-fit i own)) (answered (decode w) i)

        pub count-done : {v : List ℕ} → Turns (λ h. on_bar own (barrier_of d) h) w v → Does (count_moved own k m) w (ok tt) v
        unfolding count_moved
        count-done t = record { does = λ h i. rw (answered h i) (refl, t.turns h i) }

      pub count-refused : {v : List ℕ} (q : Question) → r ≡ Err q → Does (count_moved own k m) w (refuse (number q)) v
      unfolding count_moved
      count-refused q out =
          record { does = λ h i. let no : times k (count_change own m) (bar_of own h) ≡ refuse (number q) = sym (given h i) ∙ rw out in rw no refl }

-- one pointer: its cells changed, then counted

carried : {G : Type 0} (f : Barrier → G) (g : G → Heap) (n : Res Barrier) → (n >>= λ b. left (g (f b))) ≡ ((n >>= λ b. ok (f b)) >>= λ x. left (g x))
carried f g (ok b) = refl
carried f g (refuse q) = refl

module _ (m : Ptr × ℕ) (k : ℕ) where
  young-same : (h : Heap) → k ≡ length (keep_if (holds m.0) (take h.young.cursor h.young.cells)) → count_moved 0 k m (on_young (swapped_young m) h) ≡ young_step m h
  unfolding count_moved bar_of on_bar young_step swap_young swapped_young with_young with_bar
  young-same h e =
      rw (each-times 0 m (take h.young.cursor h.young.cells) h.young.bar, ← e)
      (carried (λ b. with_bar b (swapped_young m h.young)) (λ y. with_young y h) (times k (count_change 0 m) h.young.bar))

  old-same : (h : Heap) → k ≡ length (keep_if (holds m.0) (flat h.old.slots)) → count_moved 1 k m (with_slots (map (map (swap_cell m)) h.old.slots) h) ≡ old_step m h
  unfolding count_moved bar_of on_bar old_step swap_old with_old with_old_bar with_slots
  old-same h e =
      rw (each-times-flat 1 m h.old.slots h.old.bar, ← e)
      (carried (λ b. with_old_bar b (with_slots (map (map (swap_cell m)) h.old.slots) h).old) (λ o. with_old o h) (times k (count_change 1 m) h.old.bar))

module _ (m : Ptr × ℕ) {w u v : List ℕ} {k : ℕ} {r : Res (Unit {0})} where
  pub young-changed : Turns (on_young (swapped_young m)) w u → k ≡ length (keep_if (holds m.0) (take (decode w).young.cursor (decode w).young.cells)) → Does (count_moved 0 k m) u r v → Does (young_step m) w r v
  young-changed t e d =
      record { does = λ h i. subst (λ (x : Res (Unit {0} × Heap)). Meets x r v) (young-same m k h (rw (image-decode i) at e)) (d.does _ (t.turns h i)) }

  pub old-changed : Turned (map (map (swap_cell m))) w u → k ≡ length (keep_if (holds m.0) (flat (decode w).old.slots)) → Does (count_moved 1 k m) u r v → Does (old_step m) w r v
  old-changed t e d =
      record { does = λ h i. subst (λ (x : Res (Unit {0} × Heap)). Meets x r v) (old-same m k h (rw (image-decode i) at e)) (d.does _ (t.turned h i)) }

-- in both generations

change-is : (m : Ptr × ℕ) (h : Heap) → (young_step m h >>= λ x. old_step m x.1) ≡ change_step m h
unfolding young_step old_step change_step swap_both with_both with_young with_old
change-is m h = go (swap_young m h.young)
  where
    pair : Nursery → Elder → Res (Nursery × Elder)
    pair y e = ok (y, e)

    inner : (y : Nursery) (n : Res Elder) → (n >>= λ e. left (with_old e (with_young y h))) ≡ ((n >>= pair y) >>= with_both h)
    inner y (ok e) = refl
    inner y (refuse q) = refl

    go : (n : Res Nursery) → ((n >>= λ y. left (with_young y h)) >>= λ x. old_step m x.1) ≡ ((n >>= λ y. swap_old m h.old >>= pair y) >>= with_both h)
    go (ok y) = inner y (swap_old m h.old)
    go (refuse q) = refl

module _ (m : Ptr × ℕ) {w u v : List ℕ} (a : Result (Unit {0}) Question) (d : Does (young_step m) w (done_answer a) u) where
  pub both-changed : {r : Res (Unit {0})} (x : Unit {0}) → a ≡ Ok x → Does (old_step m) u r v → Does (change_step m) w r v
  both-changed x e f = does-same (λ h i. change-is m h) (does-then (λ _. old_step m) (rw e at d) f)

  pub young-refused : (q : Question) → a ≡ Err q → Does (change_step m) w (refuse (number q)) v
  young-refused q e = does-same (λ h i. change-is m h) (does-refused (λ _. old_step m) (rw e at d))

-- the image that an answered step leaves
pub does-image : {f : Heap → Res (Unit {0} × Heap)} {w v : List ℕ} (a : Result (Unit {0}) Question) → Image w (decode w) → Does f w (done_answer a) v → (x : Unit {0}) → a ≡ Ok x → Image v (decode v)
does-image a i d x e = (left-answered i (rw e at d)).4

-- many: the first, then the rest

changes-is : (m : Ptr × ℕ) (ms : List (Ptr × ℕ)) (h : Heap) → (change_step m h >>= λ x. changes_step ms x.1) ≡ changes_step (m ∷ ms) h
unfolding change_step changes_step with_both
changes-is m ms h = go (swap_both m (h.young, h.old))
  where
    go : (n : Res (Nursery × Elder)) → ((n >>= with_both h) >>= λ x. changes_step ms x.1) ≡ ((n >>= each swap_both ms) >>= with_both h)
    go (ok g) = refl
    go (refuse q) = refl

-- i were made, and what the rest does from w leads to what all do from w₀
pub record ChangesLeft (w₀ list bases w : List ℕ) (i : ℕ) : Type 0 where
  pub within : i ≤ pairs list bases
  pub image : Image w (decode w)
  pub leads : {r : Res (Unit {0})} {v : List ℕ} → Does (changes_step (tab (move_at list bases) i (pairs list bases - i))) w r v → Does (changes_step (moves_of list bases)) w₀ r v

module _ {list bases : List ℕ} where
  pub changes-begin : {w : List ℕ} → Image w (decode w) → ChangesLeft w list bases w 0
  unfolding moves_in
  changes-begin i = record { within = omega arith; image = i; leads = λ d. rw (sub-zero (pairs list bases)) at d }

  module _ {w₀ w : List ℕ} {i : ℕ} (l : ChangesLeft w₀ list bases w i) where
    pub changes-end : i ≡ pairs list bases → Does (changes_step (moves_of list bases)) w₀ (ok tt) w
    unfolding changes_step with_both
    changes-end e = l.leads (rw (tab-none (move_at list bases) i (pairs list bases) (omega arith)) (record { does = λ h k. (refl, k) }))

    module _ {x : Ptr × ℕ} (t : Taken list bases i x) {v : List ℕ} (a : Result (Unit {0}) Question) (d : Does (change_step x) w (done_answer a) v) where
      pub changes-turn : (u : Unit {0}) → a ≡ Ok u → ChangesLeft w₀ list bases v (i + 1)
      changes-turn u e = record {
        within = omega (arith, t.more);
        image = does-image a l.image d u e;
        leads = λ f. l.leads (rw (tab-cons (move_at list bases) i (pairs list bases) t.more) (does-same (λ h k. changes-is _ _ h) (does-then (λ _. changes_step _) (rw (e, t.move) at d) f)));
      }

      pub changes-refused : (q : Question) → a ≡ Err q → Does (changes_step (moves_of list bases)) w₀ (refuse (number q)) v
      changes-refused q e = l.leads (rw (tab-cons (move_at list bases) i (pairs list bases) t.more) (does-same (λ h k. changes-is _ _ h) (does-refused (λ _. changes_step _) (rw (e, t.move) at d))))
