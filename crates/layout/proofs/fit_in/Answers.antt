use borrow.Author.Rules.{rules}
use Rattle.layout.proofs.Room.{rooms, fit-past}
use Rattle.layout.proofs.fit_in.Goals as goal

pub returns-in_default : goal.returns-in_default
returns-in_default c = fit-past _ _ _ _ c.held-b.ensures c.in_default.ensures.lookup.3

pub overflow_sub-used : goal.overflow_sub-used
overflow_sub-used c = search (rooms, rules)

pub returns-then-c-used : goal.returns-then-c-used
returns-then-c-used c = search (rooms, rules)

pub returns : goal.returns
returns c = search (rooms, rules)
