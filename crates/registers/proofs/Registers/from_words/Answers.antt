use borrow.Author.Rules.{rules}
use mathlib.Core.Path.{◌≡◌, refl}
use lib.ListN.{length}
use Rattle.registers.proofs.Roots.{loaded-all, valid-here, loaded-more}
use Rattle.registers.proofs.Registers.from_words.Goals as goal
use Rattle.registers.proofs.Registers.from_words.Goals.{Start}

-- forty-eight words
long : (s : Start) → length s.args.w.now ≡ 48
long s = search rules

pub value-requires : goal.value-requires
value-requires c = rw c.at.ensures (valid-here _ (long (goal.at.value-requires c).Start) c.loop-i.invariant c.loop-i-test.true)

pub loop-i-preserved : goal.loop-i-preserved
loop-i-preserved c =
    loaded-more _ (long (goal.at.loop-i-preserved c).Start) c.loop-i.invariant c.loop-i-test.true (rw c.at.ensures at c.value.ensures) _ refl

pub returns : goal.returns
returns c = record {
  cells = loaded-all _ (long (goal.at.returns c).Start) c.loop-i.invariant c.loop-i-test.false;
  good = c.loop-i.invariant.good;
}
