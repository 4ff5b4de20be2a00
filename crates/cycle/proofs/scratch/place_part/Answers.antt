use Rattle.layout.proofs.Tail.{image-says-sized}
use Rattle.cycle.proofs.Lending.{part-inside, part-whole, part_placed}
use Rattle.cycle.proofs.scratch.place_part.Goals as goal

pub layout_of-l-requires : goal.layout_of-l-requires
layout_of-l-requires c = image-says-sized c.requires.image

pub promoted-part-requires : goal.promoted-part-requires
promoted-part-requires c = let all = part-inside c.requires.image c.layout_of-l.ensures c.requires.saved c.args.base c.requires.nonzero c.young_lengths.ensures c.young_cells.ensures in record { base_in_bounds = all.0; base_in_bounds_2 = all.1 }

pub invariant_of-place : goal.invariant_of-place
invariant_of-place c =
    let part = rw (c.young_lengths.ensures, c.young_cells.ensures) at c.promoted-part.ensures in
    record { whole = part-whole c.requires.image c.layout_of-l.ensures c.requires.saved c.args.base c.requires.nonzero part }

pub place-requires : goal.place-requires
place-requires c = c.requires.image

pub returns : goal.returns
returns c =
    let part = rw (c.young_lengths.ensures, c.young_cells.ensures) at c.promoted-part.ensures in
    part_placed c.requires.image c.layout_of-l.ensures c.requires.saved c.args.base c.requires.nonzero part c.place.ensures
