use Rattle.image.specs.Places.{model_sizes}
use Rattle.image.proofs.Offsets.{laid-at}
use Rattle.image.proofs.places.layout_of.Goals as goal

pub returns : goal.returns
returns c =
    laid-at _ c.requires (model_sizes c.of-z.result) _ _ _ c.of-z.ensures c.slot_lengths.ensures c.young_cells.ensures c.old_cells.ensures
