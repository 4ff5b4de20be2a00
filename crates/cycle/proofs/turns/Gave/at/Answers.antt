use Rattle.std.proofs.Common.{rules}
use Rattle.cycle.specs.Outcomes.{gave_at}
use Rattle.cycle.proofs.turns.Gave.at.Goals as goal

pub returns : goal.returns
unfolding gave_at
returns c = search rules
