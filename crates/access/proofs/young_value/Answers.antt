use Rattle.access.proofs.Cells.{young-valid, read-valid, read_cell}
use Rattle.access.proofs.Answers.{value_as}
use Rattle.access.proofs.young_value.Goals as goal

pub cell_value-requires : goal.cell_value-requires
cell_value-requires c = read-valid _ (c.young_cell.ensures.reads _ c.args.image.formed) (young-valid c.args.image.formed _ c.requires)

pub returns : goal.returns
returns c =
    value_as (read_cell _ (c.young_cell.ensures.reads _ c.args.image.formed) (young-valid c.args.image.formed _ c.requires)) c.cell_value.ensures
