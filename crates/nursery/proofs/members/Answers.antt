use borrow.Author.Rules.{rules}
use Rattle.layout.proofs.Tail.{image-says-sized}
use Rattle.nursery.proofs.Parts.{cells-long, lens-inside, list-room, listed}
use Rattle.nursery.proofs.members.Goals as goal

pub layout_of-l-requires : goal.layout_of-l-requires
layout_of-l-requires c = image-says-sized c.args.image.formed

pub invariant_of-nursery : goal.invariant_of-nursery
invariant_of-nursery c =
    let p = c.layout_of-l.ensures in record {
      two = search rules;
      within = rw (c.young_lengths.ensures, c.young_cells.ensures) (cells-long p c.args.image.formed, lens-inside p c.args.image.formed);
    }

pub list_members-requires : goal.list_members-requires
list_members-requires c = rw c.young_lengths.ensures (list-room c.layout_of-l.ensures c.args.image.formed _ _ c.requires)

pub returns : goal.returns
returns c =
    listed c.layout_of-l.ensures c.args.image.formed _ _ _ _ (rw (c.young_lengths.ensures, c.young_cells.ensures) at c.list_members.ensures) c.requires c.list_members.auto.list
