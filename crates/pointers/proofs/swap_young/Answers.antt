use Rattle.layout.proofs.Tail.{image-says-sized}
use Rattle.pointers.proofs.Young.{young-swapped}
use Rattle.pointers.proofs.swap_young.Goals as goal

pub layout_of-l-requires : goal.layout_of-l-requires
layout_of-l-requires c = image-says-sized c.requires

pub returns : goal.returns
returns c = let all = (young-swapped c.layout_of-l.ensures c.header_of-n.ensures.cursor c.requires _ (c.swap_cells.ensures.cells_after, c.swap_cells.ensures.value)) in record { turns = all.0; value = all.1 }
