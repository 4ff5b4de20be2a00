use borrow.Author.Rules.{rules}
use Rattle.layout.proofs.Tail.{tails}
use Rattle.layout.proofs.Room.{rooms}
use Rattle.layout.proofs.room_for.Goals as goal

pub layout_of-l-requires : goal.layout_of-l-requires
layout_of-l-requires c = search (tails, rooms, rules)

pub fit_in-requires : goal.fit_in-requires
fit_in-requires c = search (tails, rooms, rules)

pub returns : goal.returns
returns c = search (tails, rooms, rules)
