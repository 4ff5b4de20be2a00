use Rattle.fields.proofs.Counts.{old-bar}
use mathlib.Core.Path.{◌≡◌, sym}
use native.Mathlib.Omega.{arith}
use borrow.Author.Rules.{rules}
use lib.ListN.{length}
use lib.Seq.{length-take-le}
use Rattle.cycle.proofs.Lending.{collected-in}
use Rattle.cycle.proofs.scratch.collect_nursery.Goals as goal
use Rattle.cycle.proofs.scratch.collect_nursery.Goals.{After-masks-masks}

places-long : (c : After-masks-masks) → length c.masks-masks.result.places ≡ 256
places-long c = search rules

pub slice_bounds-collect-end : goal.slice_bounds-collect-end
slice_bounds-collect-end c =
    let long = places-long (goal.at.slice_bounds-collect-end c).After-masks-masks in
    sym (length-take-le c.masks-masks.result.count c.masks-masks.result.places (omega (arith, c.masks-masks.ensures.1)))

pub returns : goal.returns
returns c =
    collected-in c.requires.image c.args.roots.now c.args.scratch.now c.requires.roots_in_bounds c.collect.new.list (old-bar c.barrier_of.ensures) c.masks-masks.ensures.0 c.collect.ensures
