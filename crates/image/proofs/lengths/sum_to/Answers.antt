use borrow.Author.Rules.{rules}
use Rattle.image.proofs.Scans.{laws}
use Rattle.image.proofs.lengths.sum_to.Goals as goal

pub returns-then-left-x : goal.returns-then-left-x
returns-then-left-x c = search (laws, rules)

pub loop-x-preserved : goal.loop-x-preserved
loop-x-preserved c = search (laws, rules)

pub returns : goal.returns
returns c = search (laws, rules)
