-- The cycle, then the change of moved pointers, is the work of an alloc that collects.
use mathlib.Core.Path.{◌≡◌, sym, ap, ◌∙◌}
use mathlib.Core.Bool.{false}
use mathlib.Core.List.{List}
use Prim.Native.Nat.{ℕ, ◌+◌, ◌*◌, ◌/◌, ◌≤◌, min}
use native.Mathlib.Omega.{arith}
use lib.ListN.{length, take, drop, length-drop}
use lib.Seq.{length-take-le, get_or-take}
use Rattle.std.proofs.Common.{Result, Ok, Err}
use Rattle.model.specs.Res.{Res, ok, ◌>>=◌}
use Rattle.model.specs.Barrier.{Barrier, masks}
use Rattle.model.specs.Heap.{Sizes, Heap}
use Rattle.model.specs.Image.{image_length, decode}
use Rattle.model.specs.Calls.{cells_in, scratch_length}
use Rattle.theorems.specs.Fit.{Image}
use Rattle.theorems.specs.Does.{Does}
use Rattle.theorems.proofs.Does.{answered, does-then, does-refused, does-same}
use Rattle.theorems.proofs.Res.{holds_at}
use Rattle.question.specs.Question.{done_answer}
use Rattle.question.specs.declared.Question.{Question}
use Rattle.trace.proofs.Entries.{length-tab}
use Rattle.trace.proofs.Places.{in-length}
use Rattle.fields.specs.Fields.{Reads}
use Rattle.pointers.specs.Steps.{moves_in, moves_of, move_at, changes_step}
use Rattle.cycle.specs.Scratch.{bases_at, PartsOf, parts_in, Front}
use Rattle.cycle.specs.declared.scratch.Parts.{Parts}
use Rattle.cycle.specs.Turns.{Turn, push_turn}
use Rattle.cycle.specs.Outcomes.{Ready, Ran, outcome_answer, gave_turn, kept_to}
use Rattle.cycle.specs.declared.turns.Request.TheVariants.{New}
use Rattle.cycle.specs.declared.turns.Gave.{Gave}
use Rattle.cycle.proofs.Doing.{map_res, does-map}
use Rattle.cycle.proofs.Frames.{moves-same}
use Rattle.cycle.proofs.Sizes.{Moved, moved-few}
use Rattle.collector.specs.Alloc.{work_step, moves_at, Worked}

-- the moves in scratch, as they are lent

module _ (w roots s : List ℕ) {k : ℕ} (room : scratch_length (decode w).size (length roots / 3) ≤ length s) (few : k ≤ length roots / 3 + 2 * (decode w).size.n) {p : Parts} (at : PartsOf (decode w).size (length roots / 3) p) where
  pub lists-inside : (p.members + 3 * k ≤ length s) × (p.bases + k ≤ length s)
  unfolding scratch_length
  lists-inside = let m = at.members in let b = at.bases in (omega arith, omega arith)

  pub lists-hold : moves_of (take (3 * k) (drop p.members s)) (take k (drop p.bases s)) ≡ moves_at (decode w).size (length roots / 3) k s
  lists-hold =
      let long : length (take (3 * k) (drop p.members s)) ≡ 3 * k = length-take-le (3 * k) (drop p.members s) (omega (arith, length-drop p.members s, lists-inside)) in
      let many : length (take k (drop p.bases s)) ≡ k = length-take-le k (drop p.bases s) (omega (arith, length-drop p.bases s, lists-inside)) in
      let all : min (length (take (3 * k) (drop p.members s)) / 3) (length (take k (drop p.bases s))) ≡ k = omega arith in
      let cut : moves_in k (take (3 * k) (drop p.members s)) (take k (drop p.bases s)) ≡ moves_in k (drop p.members s) (drop p.bases s) =
      moves-same k (take (3 * k) (drop p.members s)) (drop p.members s) (λ j h. get_or-take (3 * k) (drop p.members s) j 0 h) (take k (drop p.bases s)) (drop p.bases s) (λ j h. get_or-take k (drop p.bases s) j 0 h) in
      ap (λ (n : ℕ). moves_in n (take (3 * k) (drop p.members s)) (take k (drop p.bases s))) all ∙ cut ∙ rw (at.members, at.bases)

-- what the cycle left, and what the change makes of it

module _ {a : ℕ} {w roots s ms : List ℕ} (r : Ready w roots s (New a) 2 false) {b : Barrier} (bar : Reads (λ h. h.young.bar) w b) (are : ms ≡ masks b)
    {o : Result Gave Question} {u t : List ℕ} (d : Ran (push_turn (parts_in (decode w).size s) (cells_in roots) ms (New a) 2 false) 2 false w roots s o u t) where
  abbrev z : Sizes
  z = (decode w).size

  -- with the masks of each heap of which the words are the image
  cycled : Does (λ h. push_turn (parts_in z s) (cells_in roots) (masks h.young.bar) (New a) 2 false h) w (outcome_answer z (length roots / 3) t o) u
  cycled = does-same (λ h i. ap (λ (l : List ℕ). push_turn (parts_in z s) (cells_in roots) l (New a) 2 false h) (are ∙ ap masks (sym (bar.reads h i)))) d.does

  then-change : Turn → Heap → Res (Turn × Heap)
  then-change x h = changes_step x.moves h >>= λ y. ok (x, y.1)

  front : Front (image_length z) s t
  unfolding kept_to
  front = d.front

  pub worked-refused : (q : Question) → o ≡ Err q → Worked a w roots s o u t
  unfolding work_step then-change
  worked-refused q e = record { does = rw e (does-refused then-change (rw e at cycled)); front = front }

  module _ (g : Gave) (e : o ≡ Ok g) where
    gave : Does (λ h. push_turn (parts_in z s) (cells_in roots) (masks h.young.bar) (New a) 2 false h) w (ok (gave_turn z (length roots / 3) t g)) u
    gave = rw e at cycled

    went : (y : Turn × Heap) × (push_turn (parts_in z s) (cells_in roots) (masks (decode w).young.bar) (New a) 2 false (decode w) ≡ ok y) × (gave_turn z (length roots / 3) t g ≡ y.0) × (decode u ≡ y.1) × Image u (decode u)
    went = answered r.image gave

    small : Moved (parts_in z s) (cells_in roots) (masks (decode w).young.bar) (decode w) went.0
    small = holds_at (moved-few (parts_in z s) (cells_in roots) (masks (decode w).young.bar) (New a) (decode w) r.image.fit) went.1

    pub image-then : Image u (decode u)
    image-then = went.4

    pub sizes-then : (decode u).size ≡ z
    sizes-then = ap (λ (h : Heap). h.size) went.3 ∙ small.0

    pub few-then : g.moved ≤ length roots / 3 + 2 * z.n
    unfolding gave_turn moves_in
    few-then =
        let k : length (moves_in g.moved (drop (image_length z) t) (drop (bases_at z (length roots / 3)) t)) ≡ length went.0.0.moves = ap (λ (y : Turn). length y.moves) went.2 in
        omega (arith, small.1, in-length roots, length-tab (move_at (drop (image_length z) t) (drop (bases_at z (length roots / 3)) t)) 0 g.moved)

    pub change-asked : length t ≡ length s → Image u (decode u) × ((scratch_length (decode u).size (length roots / 3) ≤ length t) × (g.moved ≤ length roots / 3 + 2 * (decode u).size.n))
    change-asked l = (image-then, (rw sizes-then (omega (arith, r.room)), rw sizes-then few-then))

    module _ (c : Result (Unit {0}) Question) {v : List ℕ} (n : Does (changes_step (moves_at (decode u).size (length roots / 3) g.moved t)) u (done_answer c) v) where
      changed : {x : Res Turn} → map_res (λ _. gave_turn z (length roots / 3) t g) (done_answer c) ≡ x → Does (work_step (parts_in z s) (cells_in roots) a) w x v
      unfolding work_step gave_turn then-change
      changed f = rw (← f) (does-then then-change gave (does-map (λ _. gave_turn z (length roots / 3) t g) (rw sizes-then at n)))

      pub worked-done : (y : Unit {0}) → c ≡ Ok y → Worked a w roots s (Ok g) v t
      worked-done y f = record { does = changed (rw f); front = front }

      pub worked-uncounted : (q : Question) → c ≡ Err q → Worked a w roots s (Err q) v t
      worked-uncounted q f = record { does = changed (rw f); front = front }
