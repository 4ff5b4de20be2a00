use Rattle.heap_c.proofs.Replying.{done-ok, done-err}
use Rattle.heap_c.proofs.done_number.Goals as goal

pub returns-in-Ok : goal.returns-in-Ok
returns-in-Ok c = done-ok c.in-Ok.is

pub returns-in-Err : goal.returns-in-Err
returns-in-Err c = done-err c.in-Err.is c.number.ensures
