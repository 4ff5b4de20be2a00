use Rattle.fields.proofs.Parts.{n-of}
use Rattle.nursery.proofs.Parts.{cursor-within}
use Rattle.nursery.proofs.fits.Goals as goal

pub overflow_sub-result : goal.overflow_sub-result
overflow_sub-result c = cursor-within (n-of c.header_of-h.ensures.sizes) c.header_of-h.ensures.cursor c.args.image.formed
