use native.Mathlib.Omega.{arith}
use lib.ListN.{length}
use Prim.Native.Nat.{◌≤◌}
use lib.Seq.{length-take-le}
use mathlib.Core.Path.{sym}
use Rattle.std.proofs.Common.{rules}
use Rattle.image.specs.Places.{model_sizes}
use Rattle.image.proofs.Zeros.{new-refused, new-room, new-done}
use Rattle.image.proofs.fresh.Goals as goal
use Rattle.image.proofs.fresh.Goals.{After-fill}

room : (c : After-fill) → 4 ≤ length c.fill.new.self
room c =
    let first = new-room (model_sizes c.args.z) c.args.image.now c.fit.ensures c.if-not-fit.false in
    omega (arith, c.fill.ensures.len)

pub returns-then-not-fit : goal.returns-then-not-fit
returns-then-not-fit c = new-refused (model_sizes c.args.z) c.args.image.now c.fit.ensures c.if-not-fit.true

pub slice_bounds-copy_from_slice-end : goal.slice_bounds-copy_from_slice-end
slice_bounds-copy_from_slice-end c = room (goal.at.slice_bounds-copy_from_slice-end c).After-fill

pub slice_bounds-copy_from_slice-end-2 : goal.slice_bounds-copy_from_slice-end-2
slice_bounds-copy_from_slice-end-2 c = sym (length-take-le _ _ (room (goal.at.slice_bounds-copy_from_slice-end-2 c).After-fill))

pub copy_from_slice-requires : goal.copy_from_slice-requires
copy_from_slice-requires c = length-take-le 4 _ (room (goal.at.copy_from_slice-requires c).After-fill)

pub returns : goal.returns
returns c =
    new-done (model_sizes c.args.z) c.args.image.now c.fit.ensures c.if-not-fit.false
    (rw (c.copy_from_slice.ensures.after, c.fill.ensures.after (search rules)))
