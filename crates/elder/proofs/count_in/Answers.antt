use Rattle.elder.proofs.Placing.{count-blank}
use Rattle.elder.proofs.count_in.Goals as goal

pub returns-in-Blank : goal.returns-in-Blank
returns-in-Blank c = count-blank _ c.in-Blank.is
