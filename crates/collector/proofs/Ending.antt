-- `collect_for`: what it asks of its parts, and what they come to.
use mathlib.Core.Path.{◌≡◌, sym, ap, ◌∙◌}
use mathlib.Core.Bool.{true, false}
use mathlib.Core.List.{List, [], ◌∷◌}
use Prim.Native.Nat.{ℕ, ◌+◌, ◌*◌, ◌/◌, ◌≤◌, ◌<◌}
use native.Mathlib.Omega.{arith}
use lib.Dec.{leb}
use lib.ListN.{length, take, drop}
use borrow.Author.Tests.{leb-true}
use Rattle.model.specs.Res.{Res, ok, refuse, ◌>>=◌, each}
use Rattle.model.specs.Records.{Cell, whole, cell_words, whole_cells}
use Rattle.model.specs.Barrier.{masks}
use Rattle.model.specs.Heap.{Nursery, Elder, Heap}
use Rattle.model.specs.Image.{image_length, encode, decode}
use Rattle.model.specs.Collector.{collect_and_alloc}
use Rattle.model.specs.Calls.{cells_in, roots_good, scratch_length, allocated}
use Rattle.theorems.specs.Holds.{Holds, such, none}
use Rattle.theorems.specs.Fit.{Fit, Image}
use Rattle.theorems.specs.Does.{Meets}
use Rattle.theorems.specs.Apart.{swap_both, swap_roots}
use Rattle.theorems.proofs.Does.{answered}
use Rattle.theorems.proofs.Lists.{and_left, and_right}
use Rattle.theorems.proofs.Res.{bind, holds_at}
use Rattle.trace.proofs.Entries.{length-tab}
use Rattle.trace.proofs.Places.{in-length}
use Rattle.pointers.specs.Steps.{moves_in, move_at, with_both, changes_step}
use Rattle.cycle.specs.Scratch.{bases_at, parts_in}
use Rattle.cycle.specs.Turns.{Turn}
use Rattle.cycle.specs.Outcomes.{Ready, gave_turn}
use Rattle.cycle.specs.declared.turns.Request.TheVariants.{New}
use Rattle.cycle.specs.declared.turns.Gave.{Gave}
use Rattle.question.specs.Question.{number}
use Rattle.question.specs.declared.Question.{Question}
use Rattle.std.proofs.Common.{Result, Ok, Err}
use Rattle.cycle.proofs.Sizes.{Moved, moved-few}
use Rattle.words.specs.Words.{padded}
use Rattle.collector.specs.Saving.{SavedTo}
use Rattle.collector.proofs.Front.{saved-lens, saved-parts, saved-is, put_back}
use Rattle.collector.proofs.Collecting.{collect-is-work}
use Rattle.collector.specs.Alloc.{alloc_outcome, gave_outcome, work_step, work_outcome, moves_at, Worked}

work-few : (parts : ℕ → List Cell) (roots : List Cell) (a : ℕ) (h : Heap) → Fit h → Holds (Moved parts roots (masks h.young.bar) h) (work_step parts roots a h)
unfolding work_step changes_step with_both
work-few parts roots a h f = bind _ (moved-few parts roots (masks h.young.bar) (New a) h f) (λ x m. go x m (each swap_both x.0.moves (x.1.young, x.1.old)))
  where
    go : (x : Turn × Heap) → Moved parts roots (masks h.young.bar) h x → (n : Res (Nursery × Elder)) → Holds (Moved parts roots (masks h.young.bar) h) ((n >>= with_both x.1) >>= λ y. ok (x.0, y.1))
    go x m (ok g) = such (m.0, m.1)
    go x m (refuse q) = none

pub roots-whole : (roots : List ℕ) → roots_good roots ≡ true → whole_cells roots ≡ true
unfolding roots_good
roots-whole roots good = and_left (whole_cells roots) (leb (length roots) (3 * 4096)) good

module _ (a : ℕ) (w roots s : List ℕ) {k : ℕ} (i : Image w (decode w)) (good : roots_good roots ≡ true) (room : scratch_length (decode w).size (length roots / 3) ≤ length s) (saved : SavedTo w k s) where
  few-roots : length roots ≤ 3 * 4096
  unfolding roots_good
  few-roots = leb-true (length roots) (3 * 4096) (and_right (whole_cells roots) (leb (length roots) (3 * 4096)) good)

  pub ready-first : 0 < a → Ready w roots s (New a) 2 false
  unfolding scratch_length
  ready-first pos = record {
    image = i;
    few = few-roots;
    room = room;
    saved = saved-is i saved (omega arith);
    asked = pos;
    last = omega arith;
    some = omega arith;
    first = λ e f. saved-lens i saved;
  }

  module _ {o : Result Gave Question} {v x : List ℕ} (d : Worked a w roots s o v x) where
    model_is : allocated w roots (collect_and_alloc (decode w) (cells_in roots) a) ≡ work_outcome w roots (work_step (parts_in (decode w).size s) (cells_in roots) a (decode w))
    model_is = collect-is-work w roots (decode w) a (parts_in (decode w).size s) (saved-parts i saved)

    -- the image is put back
    pub refused-is : (q : Question) → o ≡ Err q → {m : List ℕ} → m ≡ padded (take k x) (length v) → length v ≡ length w → allocated w roots (collect_and_alloc (decode w) (cells_in roots) a) ≡ alloc_outcome (Err q) m roots
    unfolding work_outcome alloc_outcome
    refused-is q e {m} f l = model_is ∙ go (work_step (parts_in (decode w).size s) (cells_in roots) a (decode w)) (rw e at (d.does.does (decode w) i))
      where
        back : w ≡ m
        back = sym (f ∙ ap (padded (take k x)) l ∙ put_back i saved x d.front.same)

        go : (n : Res (Turn × Heap)) → Meets n (refuse (number q)) v → work_outcome w roots n ≡ alloc_outcome (Err q) m roots
        go (ok y) k = absurd k
        go (refuse p) k = λ j. record { answer = refuse (sym k j); image = back j; roots = roots }

    module _ (g : Gave) (e : o ≡ Ok g) where
      went : (y : Turn × Heap) × (work_step (parts_in (decode w).size s) (cells_in roots) a (decode w) ≡ ok y) × (gave_turn (decode w).size (length roots / 3) x g ≡ y.0) × (decode v ≡ y.1) × Image v (decode v)
      went = answered i (rw e at d.does)

      small : Moved (parts_in (decode w).size s) (cells_in roots) (masks (decode w).young.bar) (decode w) went.0
      small = holds_at (work-few (parts_in (decode w).size s) (cells_in roots) a (decode w) i.fit) went.1

      sizes-kept : (decode v).size ≡ (decode w).size
      sizes-kept = ap (λ (h : Heap). h.size) went.3 ∙ small.0

      few : g.moved ≤ length roots / 3 + 2 * (decode w).size.n
      unfolding gave_turn moves_in
      few =
          let k : length (moves_in g.moved (drop (image_length (decode w).size) x) (drop (bases_at (decode w).size (length roots / 3)) x)) ≡ length went.0.0.moves = ap (λ (y : Turn). length y.moves) went.2 in
          omega (arith, small.1, in-length roots, length-tab (move_at (drop (image_length (decode w).size) x) (drop (bases_at (decode w).size (length roots / 3)) x)) 0 g.moved)

      pub roots-asked : (length x ≡ length s) → Image v (decode v) × (roots_good roots ≡ true) × (scratch_length (decode v).size (length roots / 3) ≤ length x) × (g.moved ≤ length roots / 3 + 2 * (decode v).size.n)
      roots-asked l = (went.4, good, rw sizes-kept (omega arith), rw sizes-kept few)

      pub gave-is : {y : List ℕ} → y ≡ cell_words (swap_roots (moves_at (decode v).size (length roots / 3) g.moved x) (cells_in roots)) → allocated w roots (collect_and_alloc (decode w) (cells_in roots) a) ≡ gave_outcome g v y
      unfolding work_outcome gave_outcome gave_turn whole
      gave-is {y} f =
          let t : went.0.0 ≡ gave_turn (decode w).size (length roots / 3) x g = sym went.2 in
          let p : encode went.0.1 ≡ v = ap encode (sym went.3) ∙ sym went.4.is in
          let q : cell_words (swap_roots went.0.0.moves (cells_in roots)) ≡ y = ap (λ (n : Turn). cell_words (swap_roots n.moves (cells_in roots))) t ∙ rw (← sizes-kept) (sym f) in
          model_is ∙ rw went.1 (λ j. record {
            answer = ok ((t j).ptr.heap ∷ (t j).ptr.base ∷ (t j).ptr.off ∷ 1 ∷ (t j).visits ∷ (t j).sweeps ∷ (t j).entered ∷ []);
            image = p j;
            roots = q j;
          })
