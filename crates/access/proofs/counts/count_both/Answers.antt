use Rattle.question.proofs.Passing.{refused_as}
use Rattle.value.specs.Value.{value_cell}
use Rattle.access.specs.Counting.{recounted}
use Rattle.access.proofs.Counted.{step-done, step-refused, recount-refused, old-stored, recount-stored}
use Rattle.access.proofs.counts.count_both.Goals as goal

pub returns-in_err-less : goal.returns-in_err-less
unfolding recounted
returns-in_err-less c =
    rw (refused_as c.from_residual.result _ c.from_residual.ensures.1)
    (recount-refused c.requires _ _ _ c.barrier_of.ensures _ (rw (step-refused _ c.count_out.ensures _ c.in_err-less.was)))

pub returns-in_err-more : goal.returns-in_err-more
unfolding recounted
returns-in_err-more c =
    rw (refused_as c.from_residual-in_err-more.result _ c.from_residual-in_err-more.ensures.1)
    (recount-refused c.requires _ _ _ c.barrier_of.ensures _ (rw (step-done _ c.count_out.ensures _ c.in_ok-less.was) (step-refused _ c.count_in.ensures _ c.in_err-more.was)))

pub store_count-requires-2 : goal.store_count-requires-2
store_count-requires-2 c = old-stored c.requires _ _ (value_cell c.args.new) c.barrier_of.ensures _ c.store_count.ensures

pub returns : goal.returns
unfolding recounted
returns c =
    recount-stored c.requires _ _ _ c.barrier_of.ensures _ c.store_count.ensures (rw (step-done _ c.count_out.ensures _ c.in_ok-less.was) (step-done _ c.count_in.ensures _ c.in_ok-more.was)) c.store_count-2.ensures
