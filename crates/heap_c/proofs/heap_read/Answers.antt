use mir.Syntax.{w64}
use mir.Val.{of_z}
use Rattle.model.specs.Calls.{reads, call}
use Rattle.trace.specs.Words.{pointer}
use Rattle.heap_c.proofs.Replying.{as-given, loaded-words, answers-as}
use Rattle.heap_c.proofs.heap_read.Goals as goal

pub returns : goal.returns
returns c =
    let given = as-given c.args.offset c.ranges.offset (λ x. call (reads (pointer c.args.heap c.args.base (of_z w64 x))) c.args.image.now) c.read.ensures.outcome in
    answers-as (loaded-words _ _ given) c.answer.ensures
