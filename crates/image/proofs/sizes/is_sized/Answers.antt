use borrow.Author.Tests.{le-leb}
use Rattle.std.proofs.Common.{rules, tests}
use Rattle.model.specs.Image.{sizes_of, sized}
use Rattle.image.proofs.sizes.is_sized.Goals as goal

pub returns-in_default : goal.returns-in_default
unfolding sized
returns-in_default c = search (tests, rules)

pub returns : goal.returns
unfolding sized sizes_of
returns c = rw (le-leb _ _ c.in-len4-up.len_at_least) c.fit.ensures
