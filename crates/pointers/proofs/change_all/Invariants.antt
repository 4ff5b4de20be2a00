use Rattle.std.proofs.Common.{length}
use Rattle.pointers.proofs.Changing.{ChangesLeft}
use Rattle.pointers.proofs.change_all.Given as goal

abbrev pub invariant-loop-entry : goal.invariant-loop-entry
invariant-loop-entry l = ChangesLeft l.initial.image l.members l.bases l.image (length l.yielded)
