use Rattle.barrier.proofs.Places.{Found}
use Rattle.barrier.proofs.WriteBarrier.masks.Given as goal

abbrev pub invariant-loop-place : goal.invariant-loop-place
invariant-loop-place l = Found l.n-items l.place l.count l.places
