use mathlib.Core.Path.{refl}
use Rattle.figure.proofs.Writes.{writes}
use Rattle.lines.proofs.Loops.{wrote-part}
use Rattle.lines.proofs.word.Goals as goal

pub returns : goal.returns
returns c = writes (rw c.copy_from_slice.ensures.after (wrote-part c.args.w.now c.args.t.now.out.now c.args.t.now.at c.requires)) refl
