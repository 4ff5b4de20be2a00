use mathlib.Core.Path.{◌∙◌}
use Rattle.question.proofs.Passing.{passed_on}
use Rattle.changes.proofs.Steps.{times-refused}
use Rattle.changes.proofs.count_both.Goals as goal

pub returns-in_err-barrier : goal.returns-in_err-barrier
returns-in_err-barrier c =
    let e = times-refused _ _ _ _ _ c.loop.invariant c.loop-test.true c.count_change.result c.count_change.ensures _ c.in_err-barrier.was in
    passed_on _ c.from_residual.result _ c.from_residual.ensures.1 ∙ e
