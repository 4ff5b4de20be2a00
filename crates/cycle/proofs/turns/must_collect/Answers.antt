use Rattle.cycle.proofs.Giving.{last_done, last-full, new-fits, move-none}
use Rattle.cycle.proofs.turns.must_collect.Goals as goal

pub returns-then-not-collected : goal.returns-then-not-collected
returns-then-not-collected c = last-full _ _ _ c.if-left-eq1.true c.if-not-collected.true c.is_full.ensures

pub returns-else-not-collected : goal.returns-else-not-collected
returns-else-not-collected c = last_done _ _ _ c.if-left-eq1.true c.if-not-collected.false

pub returns-in-New : goal.returns-in-New
returns-in-New c = new-fits _ _ _ _ c.if-left-eq1.false c.in-New.is c.fits.ensures

pub returns-in-Move : goal.returns-in-Move
returns-in-Move c = move-none _ _ _ _ c.if-left-eq1.false c.in-Move.is
