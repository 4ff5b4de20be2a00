use borrow.Author.Rules.{rules}
use mathlib.Core.Path.{◌≡◌}
use native.Mathlib.Omega.{arith}
use lib.ListN.{length}
use Rattle.model.specs.Barrier.{cache}
use Rattle.barrier.proofs.Copies.{copied_none, copied-length, copied_more, copied_all}
use Rattle.barrier.proofs.words.widen.Goals as goal
use Rattle.barrier.proofs.words.widen.Goals.{Start}

-- both lists have 256 elements
from-long : (s : Start) → length s.args.from.now ≡ 256
from-long s = search rules

pub loop-i-init : goal.loop-i-init
loop-i-init c = copied_none _ _

pub bounds-words-i : goal.bounds-words-i
unfolding cache
bounds-words-i c = omega (arith, copied-length c.loop-i.invariant (from-long (goal.at.bounds-words-i c).Start) c.requires)

pub bounds-from-i : goal.bounds-from-i
unfolding cache
bounds-from-i c = omega (arith, c.requires, c.loop-i-test.true)

pub loop-i-preserved : goal.loop-i-preserved
unfolding cache
loop-i-preserved c = rw c.from.ensures (copied_more c.loop-i.invariant (from-long (goal.at.loop-i-preserved c).Start) c.requires (omega (arith, c.requires, c.loop-i-test.true)))

pub shape_of-words : goal.shape_of-words
unfolding cache
shape_of-words c = copied-length c.loop-i.invariant (from-long (goal.at.shape_of-words c).Start) c.requires

pub returns : goal.returns
unfolding cache
returns c = copied_all c.loop-i.invariant (from-long (goal.at.returns c).Start) c.requires (omega (arith, c.requires, c.loop-i-test.false))
