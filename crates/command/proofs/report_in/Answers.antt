use Rattle.question.proofs.Passing.{refused_as}
use Rattle.command.proofs.Heaps.{none_there, some_there}
use Rattle.command.proofs.Reporting.{report-heapless, report-refused, report-acts}
use mathlib.Core.Path.{refl}
use Rattle.command.proofs.report_in.Goals as goal

pub returns-then-is_empty : goal.returns-then-is_empty
returns-then-is_empty c r g = report-heapless c.requires.held g (none_there _ c.is_empty.ensures c.if-is_empty.true) (refl, refl)

pub returns : goal.returns
returns c r g =
    report-acts c.requires.held (some_there _ c.is_empty.ensures c.if-is_empty.false) g _ _ c.report_lent_formed.ensures c.in_ok-s.was

pub returns-in_err-s : goal.returns-in_err-s
returns-in_err-s c r g =
    report-refused c.requires.held (some_there _ c.is_empty.ensures c.if-is_empty.false) g _ _ c.report_lent_formed.ensures c.in_err-s.was (refused_as c.from_residual.result _ c.from_residual.ensures.1, refl)
