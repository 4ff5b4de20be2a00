use borrow.Author.Rules.{rules}
use mathlib.Core.List.{[]}
use native.Mathlib.Omega.{arith}
use Rattle.fields.proofs.Parts.{most-is}
use Rattle.nursery.proofs.Collecting.{in-front, collect-full, collect-lost, collect-over, collect-done}
use Rattle.nursery.proofs.collect.Goals as goal

pub returns-then-h-ge-MOST : goal.returns-then-h-ge-MOST
returns-then-h-ge-MOST c = collect-full _ _ c.header_of-h.ensures.young_collections (search rules) []

pub returns-then-not-all_allocated : goal.returns-then-not-all_allocated
returns-then-not-all_allocated c =
    let collections = c.header_of-h.ensures.young_collections in
    collect-lost _ _ collections (search rules) _ _ c.members-entered.ensures (in-front _ _ _ _ _ c.members-entered.ensures.fits c.survivors-survivors.ensures.upper_bound c.survivors-survivors.auto.list c.survivors-survivors.ensures.list_after) (search rules) c.all_allocated.ensures c.if-not-all_allocated.true

pub overflow_sub-h : goal.overflow_sub-h
overflow_sub-h c =
    let i = c.requires.image in
    omega (arith, most-is, c.header_of-h.ensures.promotions.reads _ i, i.fit.young.proms)

pub returns-then-h-visits : goal.returns-then-h-visits
returns-then-h-visits c =
    let collections = c.header_of-h.ensures.young_collections in
    let promotions = c.header_of-h.ensures.promotions in
    collect-over _ _ collections (search rules) _ _ c.members-entered.ensures (in-front _ _ _ _ _ c.members-entered.ensures.fits c.survivors-survivors.ensures.upper_bound c.survivors-survivors.auto.list c.survivors-survivors.ensures.list_after) (search rules) c.all_allocated.ensures c.if-not-all_allocated.false promotions (search rules)

pub empty_nursery-requires-clause-image_bound : goal.empty_nursery-requires-clause-image_bound
empty_nursery-requires-clause-image_bound c =
    let i = c.requires.image in
    let collections = c.header_of-h.ensures.young_collections in
    let promotions = c.header_of-h.ensures.promotions in
    (omega (arith, most-is, collections.reads _ i), omega (arith, most-is, promotions.reads _ i))

pub returns : goal.returns
returns c =
    let collections = c.header_of-h.ensures.young_collections in
    let promotions = c.header_of-h.ensures.promotions in
    collect-done _ _ collections (search rules) _ _ c.members-entered.ensures (in-front _ _ _ _ _ c.members-entered.ensures.fits c.survivors-survivors.ensures.upper_bound c.survivors-survivors.auto.list c.survivors-survivors.ensures.list_after) (search rules) c.all_allocated.ensures c.if-not-all_allocated.false promotions (search rules) c.empty_nursery.ensures
