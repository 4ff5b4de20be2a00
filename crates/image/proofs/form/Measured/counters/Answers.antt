use native.Mathlib.Omega.{arith}
use Rattle.model.specs.Barrier.{most}
use Rattle.image.specs.Conditions.{counters_good}
use Rattle.image.proofs.Bounds.{said-no, said-yes}
use Rattle.image.proofs.Parts.{counters-part}
use Rattle.image.proofs.form.Measured.counters.Goals as goal

pub returns-then-cursor_in : goal.returns-then-cursor_in
unfolding counters_good most
returns-then-cursor_in c =
    let size = c.args.self.sized in
    rw (said-yes c.cursor_in.ensures c.if-cursor_in.true) (rw (counters-part c.args.self.words.now (omega arith)) at c.at_most.ensures)

pub returns-else-cursor_in : goal.returns-else-cursor_in
unfolding counters_good
returns-else-cursor_in c = rw (said-no c.cursor_in.ensures c.if-cursor_in.false) c.if-cursor_in.false
