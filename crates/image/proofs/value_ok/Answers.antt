use mathlib.Core.Bool.{and-true, and-false}
use Rattle.std.proofs.Common.{rules, tests}
use Rattle.model.specs.Calls.{value_good}
use Rattle.image.proofs.value_ok.Goals as goal

pub returns-then-cell-eq3 : goal.returns-then-cell-eq3
unfolding value_good
returns-then-cell-eq3 c = search (tests, rules, and-true)

pub returns-else-cell-eq3 : goal.returns-else-cell-eq3
unfolding value_good
returns-else-cell-eq3 c = search (tests, rules, and-false)
