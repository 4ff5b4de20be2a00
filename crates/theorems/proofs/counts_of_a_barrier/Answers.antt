use Rattle.std.proofs.Common.{refl}
use Rattle.model.specs.Barrier.{cache}
use Rattle.theorems.proofs.counts_of_a_barrier.Goals as goal

pub returns : goal.returns
unfolding cache
returns c = refl
