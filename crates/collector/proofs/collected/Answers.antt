use mathlib.Core.Path.{refl}
use Rattle.collector.specs.Alloc.{gave_outcome, alloc_outcome}
use Rattle.collector.proofs.collected.Goals as goal

pub returns : goal.returns
unfolding gave_outcome alloc_outcome
returns c v roots = refl
