use Rattle.heap_c.proofs.Replying.{reports, reports-as}
use Rattle.heap_c.proofs.heap_report.Goals as goal

pub returns : goal.returns
returns c = reports-as c.report_lent.ensures (reports _ c.answer.ensures _)
