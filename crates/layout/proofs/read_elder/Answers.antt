use borrow.Author.Rules.{rules}
use Rattle.layout.proofs.Tail.{tails}
use Rattle.layout.proofs.read_elder.Goals as goal

pub layout_of-l-requires : goal.layout_of-l-requires
layout_of-l-requires c = search (tails, rules)

pub read_old-requires : goal.read_old-requires
read_old-requires c = search (tails, rules)

pub returns : goal.returns
returns c = search (tails, rules)
