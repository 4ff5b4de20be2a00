use borrow.Author.Rules.{rules}
use Rattle.slots.proofs.Counts.{count_yes, count_no, count-done}
use Rattle.slots.proofs.held.Goals as goal
use Rattle.slots.proofs.held.Goals.{then-len-gt0, else-len-gt0}

pub loop-len-preserved : goal.loop-len-preserved
loop-len-preserved c = elim c.if-len-gt0.branch [ then-len-gt0 w ↦ search (count_yes, rules) | else-len-gt0 w ↦ search (count_no, rules) ]

pub returns : goal.returns
returns c = search (count-done, rules)
