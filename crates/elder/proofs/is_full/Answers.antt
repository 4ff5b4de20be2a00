use borrow.Author.Rules.{rules}
use Rattle.layout.proofs.Tail.{image-says-sized}
use Rattle.fields.proofs.Parts.{t-of}
use Rattle.elder.proofs.Lent.{full_is}
use Rattle.elder.proofs.is_full.Goals as goal

pub layout_of-l-requires : goal.layout_of-l-requires
layout_of-l-requires c = search (image-says-sized, rules)

pub returns : goal.returns
returns c = full_is c.layout_of-l.ensures (t-of c.header_of.ensures.sizes) (rw c.slot_lengths.ensures at c.held-n.ensures)
