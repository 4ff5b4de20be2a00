use Rattle.heap_c.proofs.Replying.{answers-ok, answers-err}
use Rattle.heap_c.proofs.answer.Goals as goal

pub returns-in-Ok : goal.returns-in-Ok
returns-in-Ok g c = answers-ok _ c.in-Ok.is c.to_words.ensures

pub returns-in-Err : goal.returns-in-Err
returns-in-Err g c = answers-err _ c.in-Err.is c.number.ensures
