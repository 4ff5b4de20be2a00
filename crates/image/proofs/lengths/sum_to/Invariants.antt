use Rattle.image.proofs.Scans.{Summing}
use Rattle.image.proofs.lengths.sum_to.Given as goal

abbrev pub invariant-loop-x : goal.invariant-loop-x
invariant-loop-x l = Summing l.lengths l.limit l.left l.x-index
