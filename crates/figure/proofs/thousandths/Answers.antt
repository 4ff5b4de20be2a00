use mathlib.Core.Path.{sym}
use Prim.Native.Nat.{◌*◌, ◌^◌, ◌≤◌}
use native.Mathlib.Omega.{arith}
use lib.Pow.{pow_mono}
use Rattle.figure.proofs.Fields.{below_half}
use Rattle.figure.proofs.thousandths.Goals as goal

pub returns-then-h-ge64 : goal.returns-then-h-ge64
returns-then-h-ge64 c =
    let m : 2 ^ 64 ≤ 2 ^ c.args.h = pow_mono c.if-h-ge64.true in
    sym (below_half (1000 * c.args.q) (2 ^ c.args.h) (omega (arith, c.requires)))
