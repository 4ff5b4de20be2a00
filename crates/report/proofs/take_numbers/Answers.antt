use mathlib.Core.Path.{refl}
use Rattle.report.proofs.Taking.{all-taken}
use Rattle.report.proofs.take_numbers.Goals as goal

pub returns : goal.returns
returns c = all-taken _ refl c.young_numbers-nursery.ensures c.old_numbers-elder.ensures
