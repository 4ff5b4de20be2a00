use Rattle.std.proofs.Common.{length}
use Rattle.pointers.proofs.Roots.{RootsLeft}
use Rattle.pointers.proofs.change_roots.Given as goal

abbrev pub invariant-loop-entry : goal.invariant-loop-entry
invariant-loop-entry l = RootsLeft l.initial.roots l.members l.bases l.roots (length l.yielded)
