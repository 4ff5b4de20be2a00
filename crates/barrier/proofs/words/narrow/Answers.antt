use borrow.Author.Rules.{rules}
use mathlib.Core.Path.{◌≡◌}
use native.Mathlib.Omega.{arith}
use lib.ListN.{length}
use Rattle.model.specs.Barrier.{cache, most}
use Rattle.theorems.proofs.Barrier.{all_at_most-at}
use Rattle.barrier.proofs.Copies.{copied_none, copied_more, copied_all}
use Rattle.barrier.proofs.words.narrow.Goals as goal
use Rattle.barrier.proofs.words.narrow.Goals.{Start}

counts-long : (s : Start) → length s.args.counts.now ≡ 256
counts-long s = search rules

pub loop-i-init : goal.loop-i-init
loop-i-init c = copied_none _ _

-- there are 256 words
pub bounds-words-i : goal.bounds-words-i
unfolding cache
bounds-words-i c = search rules

pub overflow_cast-count : goal.overflow_cast-count
unfolding most
overflow_cast-count c =
    omega (arith, all_at_most-at most c.args.words.now c.loop-i.i c.requires.1)

pub loop-i-preserved : goal.loop-i-preserved
unfolding cache
loop-i-preserved c = copied_more c.loop-i.invariant c.requires.0 (counts-long (goal.at.loop-i-preserved c).Start) c.loop-i-test.true

pub returns : goal.returns
unfolding cache
returns c = copied_all c.loop-i.invariant c.requires.0 (counts-long (goal.at.returns c).Start) c.loop-i-test.false
