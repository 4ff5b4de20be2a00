use borrow.Author.Rules.{rules}
use Rattle.trace.specs.Words.{listed}
use Rattle.layout.proofs.Tail.{image-says-sized, parts-formed}
use Rattle.fields.proofs.Counts.{old-bar}
use Rattle.elder.proofs.Lent.{dropped-read}
use Rattle.elder.proofs.count_dropped.Goals as goal

pub layout_of-l-requires : goal.layout_of-l-requires
layout_of-l-requires c = search (image-says-sized, rules)

pub count_dropped-requires : goal.count_dropped-requires
count_dropped-requires c = rw (c.slot_lengths.ensures, c.elder_cells.ensures) (parts-formed c.args.image.formed c.layout_of-l.ensures)

pub returns : goal.returns
returns c =
    dropped-read c.layout_of-l.ensures (listed c.args.members.now) (old-bar c.barrier_of-b.ensures) (rw (c.slot_lengths.ensures, c.elder_cells.ensures) at c.count_dropped.ensures)
