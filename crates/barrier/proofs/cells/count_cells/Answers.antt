use Rattle.barrier.specs.Counts.{step_of}
use Rattle.barrier.proofs.cells.count_cells.Goals as goal

pub returns-in-In : goal.returns-in-In
unfolding step_of
returns-in-In c = rw c.in-In.is c.counted_in.ensures

pub returns-in-Out : goal.returns-in-Out
unfolding step_of
returns-in-Out c = rw c.in-Out.is c.counted_out.ensures
