use borrow.Author.Rules.{rules}
use Rattle.layout.proofs.Tail.{image-says-sized}
use Rattle.elder.proofs.Lent.{trace-room, listed}
use Rattle.elder.proofs.members.Goals as goal

pub layout_of-l-requires : goal.layout_of-l-requires
layout_of-l-requires c = search (image-says-sized, rules)

pub invariant_of-elder : goal.invariant_of-elder
invariant_of-elder c = record {
  two = search rules;
  within = rw (c.slot_lengths.ensures, c.elder_cells.ensures) (trace-room c.layout_of-l.ensures c.args.image.formed c.args.roots.now c.requires).0;
}

pub list_members-requires : goal.list_members-requires
list_members-requires c = rw c.slot_lengths.ensures (trace-room c.layout_of-l.ensures c.args.image.formed c.args.roots.now c.requires).1

pub returns : goal.returns
returns c =
    listed c.layout_of-l.ensures c.args.image.formed c.args.roots.now c.requires c.args.masks.now (search rules) (rw (c.slot_lengths.ensures, c.elder_cells.ensures) at c.list_members.ensures)
