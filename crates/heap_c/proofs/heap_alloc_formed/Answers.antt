use lib.ListN.{length}
use mir.Syntax.{w64}
use mir.Val.{of_z}
use Rattle.model.specs.Image.{decode}
use Rattle.model.specs.Calls.{alloc_on, allocated}
use Rattle.heap_c.proofs.Replying.{as-given, allocates, allocates-as}
use Rattle.heap_c.proofs.heap_alloc_formed.Goals as goal

pub returns : goal.returns
returns c =
    let w = c.args.image.now in
    let roots = c.args.roots.now in
    let given = as-given c.args.amount c.ranges.amount (λ x. allocated w roots (alloc_on (decode w) roots (length c.args.scratch.now) (of_z w64 x))) c.alloc_formed.ensures in
    allocates-as given (allocates _ c.answer.ensures _ _)
