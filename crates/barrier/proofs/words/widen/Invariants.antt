use Rattle.barrier.proofs.Copies.{Copied}
use Rattle.barrier.proofs.words.widen.Given as goal

abbrev pub invariant-loop-i : goal.invariant-loop-i
invariant-loop-i l = Copied l.from l.initial.words l.i l.words
