use Rattle.fields.proofs.Turned.{cell_room, cell-read}
use Rattle.fields.proofs.Parts.{sized-in}
use Rattle.fields.proofs.young_cell.Goals as goal

pub layout_of-l-requires : goal.layout_of-l-requires
layout_of-l-requires c = sized-in c.args.image.formed

pub at-requires : goal.at-requires
at-requires c = rw c.young_cells.ensures (cell_room c.layout_of-l.ensures _ c.requires c.args.image.formed)

pub returns : goal.returns
returns c = cell-read c.layout_of-l.ensures _ c.requires _ (rw c.young_cells.ensures at c.at.ensures)
