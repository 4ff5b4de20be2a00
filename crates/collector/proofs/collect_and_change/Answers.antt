use mathlib.Core.Path.{◌≡◌, sym}
use native.Mathlib.Omega.{arith}
use borrow.Author.Rules.{rules}
use lib.ListN.{length}
use lib.Seq.{length-take-le}
use Rattle.question.proofs.Passing.{refused_as}
use Rattle.fields.proofs.Counts.{young-bar}
use Rattle.collector.proofs.Changed.{worked-refused, change-asked, worked-done, worked-uncounted}
use Rattle.collector.proofs.collect_and_change.Goals as goal
use Rattle.collector.proofs.collect_and_change.Goals.{After-masks-masks}

places-long : (c : After-masks-masks) → length c.masks-masks.result.places ≡ 256
places-long c = search rules

pub slice_bounds-collect_and_push_allocation-end : goal.slice_bounds-collect_and_push_allocation-end
slice_bounds-collect_and_push_allocation-end c =
    let long = places-long (goal.at.slice_bounds-collect_and_push_allocation-end c).After-masks-masks in
    sym (length-take-le c.masks-masks.result.count c.masks-masks.result.places (omega (arith, c.masks-masks.ensures.1)))

pub returns-in_err-g : goal.returns-in_err-g
returns-in_err-g c = rw (refused_as c.from_residual.result _ c.from_residual.ensures.1) (rw c.in_err-g.was at (worked-refused c.requires (young-bar c.barrier_of.ensures) c.masks-masks.ensures.0 c.collect_and_push_allocation.ensures _ c.in_err-g.was))

pub change_heap-requires : goal.change_heap-requires
change_heap-requires c = let all = (change-asked c.requires (young-bar c.barrier_of.ensures) c.masks-masks.ensures.0 c.collect_and_push_allocation.ensures _ c.in_ok-g.was (search rules)) in record { image = all.0; roots_in_bounds = all.1.0; moved_in_bounds = all.1.1 }

pub returns : goal.returns
returns c = worked-done c.requires (young-bar c.barrier_of.ensures) c.masks-masks.ensures.0 c.collect_and_push_allocation.ensures _ c.in_ok-g.was _ c.change_heap.ensures _ c.in_ok-change_heap.was

pub returns-in_err-change_heap : goal.returns-in_err-change_heap
returns-in_err-change_heap c =
    rw (refused_as c.from_residual-in_err-change_heap.result _ c.from_residual-in_err-change_heap.ensures.1) (worked-uncounted c.requires (young-bar c.barrier_of.ensures) c.masks-masks.ensures.0 c.collect_and_push_allocation.ensures _ c.in_ok-g.was _ c.change_heap.ensures _ c.in_err-change_heap.was)
