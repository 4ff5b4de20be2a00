use Rattle.question.proofs.Passing.{passed_on}
use Rattle.pointers.proofs.Changing.{count-fit, count-done, count-refused}
use Rattle.pointers.proofs.count_all.Goals as goal

pub put_barrier-requires : goal.put_barrier-requires
put_barrier-requires c = record {
  image = c.requires;
  fit_barrier = count-fit _ _ _ c.count_changes.result c.barrier_of.ensures c.count_changes.ensures _ c.in_ok-b.was c.requires;
}

pub returns-in_err-b : goal.returns-in_err-b
returns-in_err-b c =
    rw (passed_on (λ u. u) c.from_residual.result _ c.from_residual.ensures.1)
    (count-refused _ _ _ c.count_changes.result c.barrier_of.ensures c.count_changes.ensures _ c.in_err-b.was)

pub returns : goal.returns
returns c = count-done _ _ _ c.count_changes.result c.barrier_of.ensures c.count_changes.ensures _ c.in_ok-b.was c.put_barrier.ensures
