use mathlib.Core.Bool.{and-true, and-false}
use Rattle.std.proofs.Common.{rules, tests}
use Rattle.model.specs.Calls.{roots_good}
use Rattle.image.proofs.roots_ok.Goals as goal

pub returns-then-roots : goal.returns-then-roots
unfolding roots_good
returns-then-roots c = search (tests, rules, and-true)

pub returns-else-roots : goal.returns-else-roots
unfolding roots_good
returns-else-roots c = search (tests, rules, and-false)
