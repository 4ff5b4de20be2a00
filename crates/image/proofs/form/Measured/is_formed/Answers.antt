use Rattle.std.proofs.Common.{rules, tests}
use Rattle.image.proofs.Parts.{formed-is}
use Rattle.image.proofs.form.Measured.is_formed.Goals as goal

pub returns-then-young : goal.returns-then-young
returns-then-young c = rw formed-is (search (tests, rules))

pub returns-else-young : goal.returns-else-young
returns-else-young c = rw formed-is (search (tests, rules))
