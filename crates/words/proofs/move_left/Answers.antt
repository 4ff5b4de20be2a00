use borrow.Author.Rules.{rules}
use Rattle.words.proofs.Moves.{moves}
use Rattle.words.proofs.move_left.Goals as goal

pub loop-i-init : goal.loop-i-init
loop-i-init c = search (moves, rules)

pub loop-i-preserved : goal.loop-i-preserved
loop-i-preserved c = search (moves, rules)

pub returns : goal.returns
returns c = search (moves, rules)
