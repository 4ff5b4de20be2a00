use mathlib.Core.Path.{sym, ◌∙◌}
use Rattle.question.proofs.Passing.{passed_on}
use Rattle.barrier.specs.Counts.{step_of}
use Rattle.drops.proofs.Drops.{left-begin, left-done, left-stays, left-turn, left-refused}
use Rattle.drops.proofs.count_dropped.Goals as goal
use Rattle.drops.proofs.count_dropped.Goals.{then-is_counted+in_ok-barrier, else-is_counted}

pub loop-b-init : goal.loop-b-init
loop-b-init c = left-begin _ _ _ _ _ c.requires

pub returns-in_err-barrier : goal.returns-in_err-barrier
unfolding step_of
returns-in_err-barrier c =
    let e = left-refused c.loop-b.invariant c.loop-b-test.true c.count_cells.result (sym c.is_counted.ensures ∙ c.if-is_counted.true) c.count_cells.ensures _ c.in_err-barrier.was in
    passed_on _ c.from_residual.result _ c.from_residual.ensures.1 ∙ e

pub loop-b-preserved : goal.loop-b-preserved
unfolding step_of
loop-b-preserved c =
    let told = c.is_counted.ensures in
    elim c.if-is_counted.branch [
      | then-is_counted+in_ok-barrier w ↦ rw (w.barrier-is, w.at-is) (left-turn c.loop-b.invariant c.loop-b-test.true w.count_cells.result (sym told ∙ w.if-is_counted.true) w.count_cells.ensures _ w.in_ok-barrier.was)
      | else-is_counted w ↦ rw (w.barrier-is, w.at-is) (left-stays c.loop-b.invariant c.loop-b-test.true (sym told ∙ w.if-is_counted.false))
    ]

pub returns : goal.returns
returns c = left-done c.loop-b.invariant c.loop-b-test.false
