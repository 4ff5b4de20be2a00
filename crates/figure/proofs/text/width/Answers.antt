use Rattle.std.proofs.Common.{sym}
use Rattle.figure.proofs.Digits.{decimal-counted}
use Rattle.figure.proofs.text.width.Goals as goal

pub returns : goal.returns
returns c =
    let m = c.max.ensures in
    sym (decimal-counted c.args.n c.ilog10.result c.ilog10.ensures.bound (rw m at c.ilog10.ensures.power_le) (rw m at c.ilog10.ensures.next_power_gt))
