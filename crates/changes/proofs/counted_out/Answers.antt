use borrow.Author.Rules.{rules}
use Rattle.barrier.specs.Counts.{barrier_of}
use Rattle.changes.proofs.Steps.{times-after}
use Rattle.changes.proofs.counted_out.Goals as goal

pub loop-preserved : goal.loop-preserved
loop-preserved c = times-after _ _ _ (barrier_of c.in-Ok.reached) _ (rw c.in-Ok.is at c.loop.invariant) c.loop-test.true _ (search rules)
