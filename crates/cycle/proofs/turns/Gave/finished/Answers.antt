use Rattle.std.proofs.Common.{rules}
use Rattle.cycle.specs.Outcomes.{finished_gave}
use Rattle.cycle.proofs.turns.Gave.finished.Goals as goal

pub returns : goal.returns
unfolding finished_gave
returns c = search rules
