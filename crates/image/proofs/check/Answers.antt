use Rattle.image.specs.Answers.{image_asked}
use Rattle.image.proofs.Bounds.{said-no, said-yes, is-sized}
use Rattle.image.proofs.check.Goals as goal

pub returns-then-not-is_sized : goal.returns-then-not-is_sized
unfolding image_asked
returns-then-not-is_sized c = rw (said-no c.is_sized.ensures c.if-not-is_sized.true)

pub invariant_of-is_formed : goal.invariant_of-is_formed
invariant_of-is_formed c = record { sized = is-sized _ (said-yes c.is_sized.ensures c.if-not-is_sized.false) }

pub returns-then-not-is_formed : goal.returns-then-not-is_formed
unfolding image_asked
returns-then-not-is_formed c =
    rw (said-yes c.is_sized.ensures c.if-not-is_sized.false, said-no c.is_formed.ensures c.if-not-is_formed.true)

pub returns : goal.returns
unfolding image_asked
returns c =
    rw (said-yes c.is_sized.ensures c.if-not-is_sized.false, said-yes c.is_formed.ensures c.if-not-is_formed.false)
