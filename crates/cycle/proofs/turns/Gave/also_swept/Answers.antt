use Rattle.std.proofs.Common.{rules}
use Rattle.cycle.specs.Outcomes.{swept_gave}
use Rattle.cycle.proofs.turns.Gave.also_swept.Goals as goal

pub returns : goal.returns
unfolding swept_gave
returns c = search rules
