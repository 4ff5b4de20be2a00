use Rattle.fields.proofs.Turned.{absent-stays, absent-fits, absent-put}
use Rattle.fields.proofs.clear_young_barrier.Goals as goal

pub put_barrier-requires-clause-fit_barrier : goal.put_barrier-requires-clause-fit_barrier
put_barrier-requires-clause-fit_barrier c = absent-fits c.clear.ensures

pub returns-then-is_present : goal.returns-then-is_present
returns-then-is_present c = absent-put c.clear.ensures c.put_barrier.ensures

pub returns-else-is_present : goal.returns-else-is_present
returns-else-is_present c = absent-stays c.is_present.ensures c.if-is_present.false
