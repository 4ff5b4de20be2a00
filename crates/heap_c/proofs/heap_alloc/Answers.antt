use lib.ListN.{length}
use mir.Syntax.{w64}
use mir.Val.{of_z}
use Rattle.model.specs.Calls.{allocs, call}
use Rattle.heap_c.proofs.Replying.{as-given, allocates, allocates-as}
use Rattle.heap_c.proofs.heap_alloc.Goals as goal

pub returns : goal.returns
returns c =
    let given = as-given c.args.amount c.ranges.amount (λ x. call (allocs c.args.roots.now (length c.args.scratch.now) (of_z w64 x)) c.args.image.now) c.alloc.ensures in
    allocates-as given (allocates _ c.answer.ensures _ _)
