use mathlib.Core.Path.{refl}
use Rattle.fields.specs.Fields.{bar_of}
use Rattle.fields.proofs.Parts.{n-of}
use Rattle.report.proofs.Taking.{cursor-within, young-taken}
use Rattle.report.proofs.young_numbers.Goals as goal

pub overflow_sub-free : goal.overflow_sub-free
overflow_sub-free c = cursor-within (n-of c.header_of-h.ensures.sizes) c.header_of-h.ensures.cursor c.args.image.formed

pub returns : goal.returns
unfolding bar_of
returns c =
    young-taken _ (n-of c.header_of-h.ensures.sizes) refl c.header_of-h.ensures.young_collections c.young_allocations-allocations.ensures c.header_of-h.ensures.cursor c.references-references.ensures c.header_of-h.ensures.promotions
