use native.Mathlib.Omega.{arith}
use Rattle.fields.proofs.Parts.{most-is}
use Rattle.fields.proofs.Turned.{next-image, emptied-turns}
use Rattle.fields.proofs.empty_nursery.Goals as goal

pub overflow_add-collections : goal.overflow_add-collections
overflow_add-collections c =
    let pre = c.requires in
    let collections = c.header_of-h.ensures.young_collections in
    omega (arith, most-is, pre.image_bound.0, collections.reads _ pre.image)

pub overflow_add-moved : goal.overflow_add-moved
overflow_add-moved c =
    let pre = c.requires in
    let promotions = c.header_of-h.ensures.promotions in
    omega (arith, most-is, pre.image_bound.1, promotions.reads _ pre.image)

pub restart-requires-clause-image : goal.restart-requires-clause-image
restart-requires-clause-image c = next-image c.clear_young_barrier.ensures c.requires.image

pub returns : goal.returns
returns c =
    let collections = c.header_of-h.ensures.young_collections in
    let promotions = c.header_of-h.ensures.promotions in
    emptied-turns _ collections promotions c.clear_young_barrier.ensures c.restart.ensures
