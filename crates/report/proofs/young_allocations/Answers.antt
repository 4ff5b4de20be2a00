use borrow.Author.Rules.{rules}
use Rattle.layout.proofs.Tail.{image-says-sized}
use Rattle.report.proofs.Taking.{young-held}
use Rattle.report.proofs.young_allocations.Goals as goal

pub layout_of-l-requires : goal.layout_of-l-requires
layout_of-l-requires c = search (image-says-sized, rules)

pub returns : goal.returns
returns c = young-held c.layout_of-l.ensures c.young_lengths.ensures c.held.ensures
