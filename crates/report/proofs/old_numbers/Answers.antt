use borrow.Author.Rules.{rules}
use Rattle.layout.proofs.Tail.{image-says-sized}
use Rattle.fields.specs.Fields.{bar_of}
use Rattle.report.proofs.Taking.{used-fits, old-taken}
use Rattle.report.proofs.old_numbers.Goals as goal

pub layout_of-l-requires : goal.layout_of-l-requires
layout_of-l-requires c = search (image-says-sized, rules)

pub sum-cells-requires : goal.sum-cells-requires
sum-cells-requires c = rw c.slot_lengths-lens.ensures (used-fits c.layout_of-l.ensures c.args.image.formed)

pub returns : goal.returns
unfolding bar_of
returns c =
    old-taken c.layout_of-l.ensures _ c.header_of-collections.ensures.old_collections (rw c.slot_lengths-lens.ensures at c.held-allocations.ensures) (rw c.slot_lengths-lens.ensures at c.sum-cells.ensures) c.references-references.ensures
