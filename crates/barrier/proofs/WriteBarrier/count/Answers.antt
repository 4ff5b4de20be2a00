use Rattle.barrier.specs.Counts.{step_of}
use Rattle.barrier.proofs.WriteBarrier.count.Goals as goal

pub returns-in-In : goal.returns-in-In
unfolding step_of
returns-in-In c = rw c.in-In.is c.count_in.ensures

pub returns-in-Out : goal.returns-in-Out
unfolding step_of
returns-in-Out c = rw c.in-Out.is c.count_out.ensures
