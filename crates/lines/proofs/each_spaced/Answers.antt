use borrow.Author.Rules.{rules}
use Rattle.lines.proofs.Loops.{space-begin, space-again}
use Rattle.lines.proofs.each_spaced.Goals as goal

pub loop-x-init : goal.loop-x-init
loop-x-init c = search (space-begin, rules)

pub loop-x-preserved : goal.loop-x-preserved
loop-x-preserved c = search (space-again, rules)
