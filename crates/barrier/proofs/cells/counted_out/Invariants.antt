use Rattle.model.specs.Barrier.{count_out}
use Rattle.question.specs.Question.{answer}
use Rattle.barrier.specs.Counts.{barrier_of}
use Rattle.barrier.proofs.Turns.{Left}
use Rattle.barrier.proofs.cells.counted_out.Given as goal

abbrev pub invariant-loop-cell : goal.invariant-loop-cell
invariant-loop-cell l = Left (count_out l.own) l.triples (answer barrier_of l.initial.counted) l.cell-index (answer barrier_of l.counted)
