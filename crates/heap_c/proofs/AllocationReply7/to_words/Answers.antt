use borrow.Author.Rules.{rules}
use mathlib.Core.Path.{ap, ◌∙◌}
use mir.Syntax.{w64}
use mir.Val.{of_z}
use mir.ValLaws.{to_z-of_z}
use Rattle.heap_c.proofs.Replying.{words-in}
use Rattle.heap_c.proofs.AllocationReply7.to_words.Goals as goal

pub returns : goal.returns
returns c =
    let a = c.args.self in
    rw c.from.ensures (words-in a (c.cast_unsigned-offset.ensures ∙ ap (of_z w64) (to_z-of_z w64 a.pointer.offset (search rules))))
