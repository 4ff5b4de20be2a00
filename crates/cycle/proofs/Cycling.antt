-- The two functions of the cycle, branch by branch.
use mathlib.Core.Path.{◌≡◌, refl, sym, ap, ◌∙◌}
use mathlib.Core.Bool.{Bool, true, false, ◌&&◌, not, true≢false}
use mathlib.Core.List.{List}
use Prim.Native.Nat.{ℕ, zero, suc, ◌+◌, ◌*◌, ◌/◌, ◌≤◌, ◌<◌}
use native.Mathlib.Omega.{arith}
use lib.Dec.{leb, eqb}
use lib.ListN.{length}
use Rattle.model.specs.Res.{Res, ok, ◌>>=◌, each}
use Rattle.model.specs.Heap.{Sizes, Heap, held}
use Rattle.model.specs.Image.{decode}
use Rattle.model.specs.Calls.{cells_in}
use Rattle.theorems.specs.Fit.{Image}
use Rattle.theorems.specs.Does.{Does}
use Rattle.theorems.proofs.Does.{answered, does-then, does-refused, does-same}
use Rattle.theorems.proofs.Res.{holds_at}
use Rattle.fields.specs.Fields.{Reads}
use Rattle.std.proofs.Common.{Result, Ok, Err}
use Rattle.question.specs.declared.Question.{Question}
use Rattle.elder.specs.Steps.{collect_step}
use Rattle.nursery.specs.declared.Collected.{Collected}
use Rattle.cycle.specs.declared.turns.Request.{Request}
use Rattle.cycle.specs.declared.turns.Request.TheVariants.{New, Move}
use Rattle.cycle.specs.declared.turns.Gave.{Gave}
use Rattle.cycle.specs.Scratch.{old_list_at, parts_in, Front, SweptIn, CollectedIn}
use Rattle.cycle.specs.Turns.{Turn, pick, give, give_in, too_large, must_collect, also_swept, sweep_and_give, again_turn, push_one, none, finished, collect_and_push, push_turn, turn}
use Rattle.cycle.specs.Outcomes.{Asked, Ready, Ran, Gives, outcome_answer, gave_turn, swept_gave, kept_to}
use Rattle.cycle.proofs.Doing.{map_res, map_gave, does-map}
use Rattle.cycle.proofs.Frames.{young-same, parts_same, saved-same}
use Rattle.cycle.proofs.Pushing.{Begun}
use Rattle.cycle.proofs.Turning.{turn_last, push-collected, sweep-few}

module _ {w roots s : List ℕ} {what : Request} {left : ℕ} {done : Bool} (r : Ready w roots s what left done) where
  abbrev z : Sizes
  z = (decode w).size

  -- `alloc_or_collect`

  module _ {b : Bool} (m : Reads (must_collect what left done) w b) where
    pub turned-push : (ms : List ℕ) {o : Result Gave Question} {v x : List ℕ} → b ≡ true → Ran (push_turn (parts_in z s) (cells_in roots) ms what left done) left done w roots s o v x
        → Ran (turn (parts_in z s) (cells_in roots) ms what left done) left done w roots s o v x
    unfolding turn
    turned-push ms e d = record { does = does-same (λ h i. rw (m.reads h i ∙ e)) d.does; front = d.front }

    pub turned-give : (ms : List ℕ) {o : Result Gave Question} {v : List ℕ} → b ≡ false → Gives (give_in (parts_in z s) what left) w o v → Ran (turn (parts_in z s) (cells_in roots) ms what left done) left done w roots s o v s
    unfolding turn
    turned-give ms e d = record { does = does-same (λ h i. rw (m.reads h i ∙ e)) (d.does z (length roots / 3) s); front = record { same = refl } }

    -- what `give_in` asks
    pub not-to-collect : b ≡ false → must_collect what left true (decode w) ≡ false
    unfolding must_collect
    not-to-collect e = go (eqb left 1) (not done && leb z.t (held (decode w).old.slots)) (m.reads (decode w) r.image ∙ e)
      where
        go : (t c : Bool) → pick t c (too_large what (decode w)) ≡ false → pick t false (too_large what (decode w)) ≡ false
        go true c k = refl
        go false c k = k

    -- the elder is collected only once
    pub only-once : b ≡ true → left ≡ 1 → done ≡ false
    unfolding must_collect
    only-once e l = go done (rw l at (m.reads (decode w) r.image ∙ e))
      where
        go : (d : Bool) → (not d && leb z.t (held (decode w).old.slots)) ≡ true → d ≡ false
        go true k = absurd (true≢false (sym k))
        go false k = refl

  -- `collect_and_push_allocation`: it was collected

  pub push-last : (ms : List ℕ) {o : Result Gave Question} {v x : List ℕ} → done ≡ true → Ran (turn (parts_in z s) (cells_in roots) ms what 1 true) 1 true w roots s o v x
      → Ran (push_turn (parts_in z s) (cells_in roots) ms what left done) left done w roots s o v x
  unfolding kept_to
  push-last ms e d = rw e (record { does = does-same (λ h i. turn_last (parts_in z s) (cells_in roots) ms what h ∙ sym (push-collected (parts_in z s) (cells_in roots) ms what h left)) d.does; front = d.front })

  -- the elder alone is left, and is collected first

  module _ (ms : List ℕ) (one : left ≡ 1) (is_first : done ≡ false) {u t : List ℕ} where
    module _ {visits : ℕ} (c : SweptIn w roots ms s (Ok visits) u t) (long : length t ≡ length s) where
      first : (x : ℕ × Heap) × (collect_step (cells_in roots) ms (decode w) ≡ ok x) × (visits ≡ x.0) × (decode u ≡ x.1) × Image u (decode u)
      first = answered r.image c.does

      sizes : (decode u).size ≡ z
      sizes = ap (λ (h : Heap). h.size) first.3 ∙ (holds_at (sweep-few (parts_in z s) (cells_in roots) ms (decode w) r.image.fit) first.1).0

      pub ready-swept : Ready u roots t what 1 true
      ready-swept = record {
        image = first.4;
        few = r.few;
        room = rw sizes (omega (arith, r.room));
        saved = rw sizes (saved-same c.front (omega arith) long r.saved);
        asked = asked-now what r.asked;
        last = omega arith;
        some = omega arith;
        first = λ e. absurd (omega arith);
      }
        where
          asked-now : (q : Request) → Asked q z s → Asked q (decode u).size t
          asked-now (New a) k = k
          asked-now (Move b) k = rw (sizes, young-same c.front z (omega arith)) k

      then-give : ℕ → Heap → Res (Turn × Heap)
      then-give n h = give (parts_in z s) what h >>= λ x. ok (also_swept n x.0, x.1)

      swept-is : (x : List ℕ) (o : Result Gave Question) → map_res (also_swept visits) (outcome_answer z (length roots / 3) x o) ≡ outcome_answer z (length roots / 3) x (map_gave (λ g. swept_gave g visits) o)
      unfolding also_swept gave_turn swept_gave
      swept-is x (Ok g) = refl
      swept-is x (Err q) = refl

      pub push-swept : {o : Result Gave Question} {v x : List ℕ} → Ran (turn (parts_in (decode u).size t) (cells_in roots) ms what 1 true) 1 true u roots t o v x
          → Ran (push_turn (parts_in z s) (cells_in roots) ms what left done) left done w roots s (map_gave (λ g. swept_gave g visits) o) v x
      unfolding push_turn sweep_and_give kept_to then-give
      push-swept {o} {v} {x} d =
          let given : Does (give (parts_in z s) what) u (outcome_answer z (length roots / 3) x o) v =
          rw (← sizes) (does-same (λ h i. rw (sizes, parts_same c.front z (omega arith)) (turn_last (parts_in z s) (cells_in roots) ms what h)) d.does) in
          let kept : Front (old_list_at z (length roots / 3)) t x = rw (← sizes) d.front in
          rw (one, is_first)
          (record { does = rw (← swept-is x o) (does-then then-give c.does (does-map (also_swept visits) given)); front = record { same = kept.same ∙ c.front.same } })

    pub swept-refused : {q : Question} → SweptIn w roots ms s (Err q) u t → Ran (push_turn (parts_in z s) (cells_in roots) ms what left done) left done w roots s (Err q) u t
    unfolding push_turn sweep_and_give kept_to
    swept-refused {q} c = rw (one, is_first) (record { does = does-refused (λ n h. give (parts_in z s) what h >>= λ x. ok (also_swept n x.0, x.1)) c.does; front = c.front })

  -- the nursery is not collected
  pub nursery-refused : (ms : List ℕ) → left ≡ 2 → done ≡ false → {q : Question} {u t : List ℕ} → CollectedIn w roots s (Err q) u t → Ran (push_turn (parts_in z s) (cells_in roots) ms what left done) left done w roots s (Err q) u t
  unfolding push_turn collect_and_push kept_to
  nursery-refused ms two is_first {q} {u} {t} c =
      rw (two, is_first)
      (record {
        does = does-refused (λ k h. each (push_one (parts_in z s) (cells_in roots) ms) k.1 (none, h) >>= λ m. again_turn (parts_in z s) (cells_in roots) ms what m.1 >>= λ x. ok (finished k.0 m.0 x.0, x.1)) c.does;
        front = c.front;
      })

  -- the nursery is collected

  pub two-left : (left ≡ 1 → ⊥) → left ≡ 2
  two-left n = go left n r.some r.last
    where
      go : (k : ℕ) → (k ≡ 1 → ⊥) → 1 ≤ k → k ≤ 2 → k ≡ 2
      go zero e a b = absurd (omega arith)
      go (suc zero) e a b = absurd (e refl)
      go (suc (suc zero)) e a b = refl
      go (suc (suc (suc k))) e a b = absurd (omega arith)

  module _ (n : left ≡ 1 → ⊥) (is_first : done ≡ false) where
    pub begun : (r : Result Collected Question) {c : Collected} {u t : List ℕ} → r ≡ Ok c → CollectedIn w roots s r u t → length t ≡ length s → Begun w roots s what c u t
    begun a e d l = record { ready = rw (two-left n, is_first) at r; collected = rw e at d; long = l }

    pub at_first : (ms : List ℕ) {o : Result Gave Question} {v x : List ℕ} → Ran (push_turn (parts_in z s) (cells_in roots) ms what 2 false) 2 false w roots s o v x
        → Ran (push_turn (parts_in z s) (cells_in roots) ms what left done) left done w roots s o v x
    at_first ms d = rw (two-left n, is_first) d

-- the falling number

abbrev pub not_yet : Bool → ℕ
not_yet true = 0
not_yet false = 2

pub last-falls : (left t : ℕ) (done : Bool) → done ≡ true → (left ≡ 1 → done ≡ false) → 1 ≤ left → 4 * left + not_yet done ≡ t → 5 < t
last-falls left t done e n l m = go left (rw e at m) (λ f. true≢false (sym e ∙ n f)) l
  where
    go : (k : ℕ) → 4 * k + 0 ≡ t → (k ≡ 1 → ⊥) → 1 ≤ k → 5 < t
    go zero m n l = absurd (omega arith)
    go (suc zero) m n l = absurd (n refl)
    go (suc (suc k)) m n l = omega arith

pub first-falls : (left t : ℕ) (done : Bool) → done ≡ false → 4 * left + not_yet done ≡ t → 4 * left + 2 ≡ t
first-falls left t done e m = rw e at m
