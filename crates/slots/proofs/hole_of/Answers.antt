use borrow.Author.Rules.{rules}
use Rattle.slots.proofs.Counts.{hole-inside}
use Rattle.slots.proofs.hole_of.Goals as goal

pub invariant_of-result : goal.invariant_of-result
invariant_of-result c = record { inside = search (hole-inside, rules) }
