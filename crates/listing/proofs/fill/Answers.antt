use borrow.Author.Rules.{rules}
use Rattle.listing.proofs.Filling.{fill_more}
use Rattle.listing.proofs.fill.Goals as goal

pub loop-run-preserved : goal.loop-run-preserved
loop-run-preserved c =
    (fill_more c.loop-run.invariant.0 (search rules) c.advance-used.ensures, search rules, search rules, search rules)
