use Rattle.model.specs.Calls.{cells_in}
use Rattle.question.proofs.Passing.{passed_on}
use Rattle.barrier.specs.Counts.{step_of}
use Rattle.fields.proofs.Counts.{old-bar, old-bar-put}
use Rattle.elder.proofs.Placing.{count-quiet, count-fit, count-done, count-refused}
use Rattle.elder.proofs.count_given.Goals as goal

pub returns-then-not-any_crosses : goal.returns-then-not-any_crosses
returns-then-not-any_crosses c =
    count-quiet _ c.requires.src_value c.any_crosses.ensures c.if-not-any_crosses.true

pub put_barrier-requires : goal.put_barrier-requires
unfolding step_of
put_barrier-requires c = record {
  image = c.requires.image;
  fit_barrier = count-fit (cells_in c.args.src.now) (old-bar c.barrier_of.ensures) c.count_cells.result c.count_cells.ensures _ c.in_ok-b.was c.requires.image;
}

pub returns-in_err-b : goal.returns-in_err-b
unfolding step_of
returns-in_err-b c =
    rw (passed_on (λ u. u) c.from_residual.result _ c.from_residual.ensures.1)
    (count-refused _ (old-bar c.barrier_of.ensures) c.count_cells.result c.count_cells.ensures _ c.in_err-b.was)

pub returns : goal.returns
unfolding step_of
returns c = count-done _ (old-bar c.barrier_of.ensures) c.count_cells.result c.count_cells.ensures _ c.in_ok-b.was (old-bar-put _ c.put_barrier.ensures)
