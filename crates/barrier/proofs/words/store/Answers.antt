use borrow.Author.Rules.{rules}
use Rattle.model.specs.Barrier.{cache, counts}
use Rattle.barrier.proofs.words.store.Goals as goal

pub returns-then-barrier : goal.returns-then-barrier
unfolding counts
returns-then-barrier c = search rules

pub returns-else-barrier : goal.returns-else-barrier
unfolding counts cache
returns-else-barrier c = search rules
