use Rattle.image.proofs.Fills.{tiles-turn, tiles-stop, tiles-done}
use Rattle.image.proofs.lengths.tiled.Goals as goal

pub returns-in_default : goal.returns-in_default
returns-in_default c = tiles-stop c.loop-x.invariant c.loop-x-test.true c.tile.ensures c.in_default.is

pub loop-x-preserved : goal.loop-x-preserved
loop-x-preserved c = tiles-turn c.loop-x.invariant c.loop-x-test.true c.tile.ensures c.in-Some.is

pub returns : goal.returns
returns c = tiles-done c.loop-x.invariant c.loop-x-test.false
