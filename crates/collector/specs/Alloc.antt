-- Alloc's answers in the model, and the parts in which it is done.
use Rattle.std.specs.Prelude.{Result, false, List, [], ◌∷◌, ℕ, ◌/◌, length, drop}
use Rattle.std.specs.Int.{w64}
use Rattle.std.proofs.Common.{of_z}
use Rattle.model.specs.Res.{Res, ok, refuse, ◌>>=◌}
use Rattle.model.specs.Records.{Ptr, Cell, cell_words}
use Rattle.model.specs.Barrier.{masks}
use Rattle.model.specs.Heap.{Sizes, Heap}
use Rattle.model.specs.Image.{image_length, encode, decode}
use Rattle.model.specs.Calls.{Outcome, cells_in}
use Rattle.theorems.specs.Does.{Does}
use Rattle.theorems.specs.Apart.{swap_roots}
use Rattle.pointers.specs.Steps.{moves_in, changes_step}
use Rattle.cycle.specs.Scratch.{bases_at, parts_in, Front}
use Rattle.cycle.specs.Turns.{Turn, push_turn}
use Rattle.cycle.specs.Outcomes.{outcome_answer}
use Rattle.cycle.specs.declared.turns.Request.TheVariants.{New}
use Rattle.cycle.specs.declared.turns.Gave.{Gave}
use Rattle.question.specs.Question.{answer}
use Rattle.question.specs.declared.Question.{Question}
use Rattle.collector.specs.declared.Allocation.{Allocation}

-- the answer: the pointer, then the four counts
unfoldable pub alloc_outcome : Result Allocation Question → List ℕ → List ℕ → Outcome
alloc_outcome r v roots = record {
  answer = answer (λ a. a.pointer.heap ∷ a.pointer.base ∷ of_z w64 a.pointer.offset ∷ a.nursery.collections ∷ a.nursery.visits ∷ a.elder.collections ∷ a.elder.visits ∷ []) r;
  image = v;
  roots = roots;
}

-- the answer of a call that collected the nursery
unfoldable pub gave_outcome : Gave → List ℕ → List ℕ → Outcome
gave_outcome g v roots = record { answer = ok (g.heap ∷ g.base ∷ 0 ∷ 1 ∷ g.visits ∷ g.elder.collections ∷ g.elder.visits ∷ []); image = v; roots = roots }

-- the cycle, then moved pointers changed in both generations
unfoldable pub work_step : (ℕ → List Cell) → List Cell → ℕ → Heap → Res (Turn × Heap)
work_step parts roots a h = push_turn parts roots (masks h.young.bar) (New a) 2 false h >>= λ x. changes_step x.0.moves x.1 >>= λ y. ok (x.0, y.1)

-- what it comes to, with moved pointers changed in roots
unfoldable pub work_outcome : List ℕ → List ℕ → Res (Turn × Heap) → Outcome
work_outcome w roots (ok x) = record {
  answer = ok (x.0.ptr.heap ∷ x.0.ptr.base ∷ x.0.ptr.off ∷ 1 ∷ x.0.visits ∷ x.0.sweeps ∷ x.0.entered ∷ []);
  image = encode x.1;
  roots = cell_words (swap_roots x.0.moves (cells_in roots));
}
work_outcome w roots (refuse q) = record { answer = refuse q; image = w; roots = roots }

-- the moves that scratch holds
abbrev pub moves_at : Sizes → ℕ → ℕ → List ℕ → List (Ptr × ℕ)
moves_at z r k s = moves_in k (drop (image_length z) s) (drop (bases_at z r) s)

-- the saved image stays in front of scratch
pub record Worked (a : ℕ) (w roots s : List ℕ) (o : Result Gave Question) (v s' : List ℕ) : Type 0 where
  pub does : Does (work_step (parts_in (decode w).size s) (cells_in roots) a) w (outcome_answer (decode w).size (length roots / 3) s' o) v
  pub front : Front (image_length (decode w).size) s s'
