use Rattle.slots.proofs.Counts.{Counting}
use Rattle.slots.proofs.held.Given as goal

abbrev pub invariant-loop-len : goal.invariant-loop-len
invariant-loop-len l = Counting l.lens l.n l.len-index
