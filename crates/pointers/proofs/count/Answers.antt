use Rattle.pointers.proofs.Changing.{count_none}
use Rattle.pointers.proofs.count.Goals as goal

pub returns-then-k-eq0 : goal.returns-then-k-eq0
returns-then-k-eq0 c = count_none _ _ _ c.if-k-eq0.true
