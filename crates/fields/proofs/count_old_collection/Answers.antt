use native.Mathlib.Omega.{arith}
use Rattle.fields.proofs.Parts.{most-is}
use Rattle.fields.proofs.Turned.{counted-turns}
use Rattle.fields.proofs.count_old_collection.Goals as goal

pub overflow_add-image : goal.overflow_add-image
overflow_add-image c = omega (arith, most-is, c.requires.image_bound, c.header_of.ensures.old_collections.reads _ c.requires.image)

pub returns : goal.returns
returns c = counted-turns c.header_of.ensures.old_collections c.requires.image_bound
