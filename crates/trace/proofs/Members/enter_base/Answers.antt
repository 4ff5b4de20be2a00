use Rattle.trace.proofs.Places.{base-free, base-none}
use Rattle.trace.proofs.Entering.{none-entered}
use Rattle.trace.proofs.Members.enter_base.Goals as goal
use Rattle.trace.proofs.Members.enter_base.Goals.{then-len-eq0-via-then-len-eq0, then-len-eq0-via-else-len-eq0+then-not-matches}

pub returns-then-len-eq0 : goal.returns-then-len-eq0
returns-then-len-eq0 c = elim c.then-len-eq0.branch [
  | then-len-eq0-via-then-len-eq0 w ↦ search (none-entered, base-free)
  | then-len-eq0-via-else-len-eq0+then-not-matches w ↦ search (none-entered, base-none)
]
