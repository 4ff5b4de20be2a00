use Rattle.layout.proofs.Tail.{image-says-sized}
use Rattle.nursery.proofs.Parts.{allocated-read}
use Rattle.nursery.proofs.all_allocated.Goals as goal

pub layout_of-l-requires : goal.layout_of-l-requires
layout_of-l-requires c = image-says-sized c.args.image.formed

pub returns : goal.returns
returns c =
    allocated-read c.layout_of-l.ensures _ (rw c.young_lengths.ensures at c.all_allocated.ensures)
