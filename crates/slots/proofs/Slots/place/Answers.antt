use borrow.Author.Rules.{rules}
use Rattle.slots.proofs.Places.{placed}
use Rattle.slots.proofs.Slots.place.Goals as goal

pub splice-requires-clause-bound : goal.splice-requires-clause-bound
splice-requires-clause-bound c = let h = rw c.lens.ensures at c.hole_of-hole.ensures in (search (placed, rules), search (placed, rules))

pub returns : goal.returns
returns c = let h = rw c.lens.ensures at c.hole_of-hole.ensures in record {
  changed = search (placed, rules);
  same = search rules;
}
