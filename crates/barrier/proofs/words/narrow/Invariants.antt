use Rattle.barrier.proofs.Copies.{Copied}
use Rattle.barrier.proofs.words.narrow.Given as goal

abbrev pub invariant-loop-i : goal.invariant-loop-i
invariant-loop-i l = Copied l.words l.initial.counts l.i l.counts
