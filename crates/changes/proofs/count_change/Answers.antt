use mathlib.Core.Path.{◌∙◌}
use Rattle.question.proofs.Passing.{passed_on}
use Rattle.changes.proofs.Steps.{change-refused, change-in}
use Rattle.changes.proofs.count_change.Goals as goal

pub returns-in_err-less : goal.returns-in_err-less
returns-in_err-less c =
    let e = change-refused _ _ _ c.was.ensures c.count_out.result c.count_out.ensures _ c.in_err-less.was in
    passed_on _ c.from_residual.result _ c.from_residual.ensures.1 ∙ e

pub returns : goal.returns
returns c = c.count_in.ensures ∙ change-in _ _ _ c.was.ensures c.count_out.result c.count_out.ensures _ c.in_ok-less.was c.becomes.ensures
