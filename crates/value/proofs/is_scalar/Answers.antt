use Rattle.std.proofs.Common.{rules, tests}
use Rattle.model.specs.Records.{scalar}
use Rattle.value.proofs.is_scalar.Goals as goal

pub returns-then-c-lt55296 : goal.returns-then-c-lt55296
unfolding scalar
returns-then-c-lt55296 c = search (tests, rules)

pub returns-then-c-ge57344 : goal.returns-then-c-ge57344
unfolding scalar
returns-then-c-ge57344 c = search (tests, rules)

pub returns-else-c-ge57344 : goal.returns-else-c-ge57344
unfolding scalar
returns-else-c-ge57344 c = search (tests, rules)
