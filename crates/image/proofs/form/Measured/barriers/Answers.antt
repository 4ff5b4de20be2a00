use Rattle.image.specs.Conditions.{barriers_good}
use Rattle.image.proofs.Bounds.{said-no, said-yes}
use Rattle.image.proofs.Parts.{young-counts, old-counts}
use Rattle.image.proofs.form.Measured.barriers.Goals as goal

pub returns-then-barrier : goal.returns-then-barrier
unfolding barriers_good
returns-then-barrier c =
    let w = c.args.self.words.now in
    rw (young-counts w, old-counts w, said-yes c.barrier.ensures c.if-barrier.true) c.barrier-then-barrier.ensures

pub returns-else-barrier : goal.returns-else-barrier
unfolding barriers_good
returns-else-barrier c =
    let w = c.args.self.words.now in
    rw (young-counts w, said-no c.barrier.ensures c.if-barrier.false) c.if-barrier.false
