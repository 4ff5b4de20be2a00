use mathlib.Core.Path.{refl}
use native.Mathlib.Omega.{arith}
use Rattle.figure.proofs.Digits.{decimal-is, decimal-length}
use Rattle.figure.proofs.Writes.{wrote-to, writes}
use Rattle.figure.proofs.text.Text.decimal.Goals as goal

pub overflow_add-end : goal.overflow_add-end
overflow_add-end c = omega (arith, c.width.ensures, decimal-length c.args.n)

pub write_digits-requires : goal.write_digits-requires
write_digits-requires c =
    rw (← (decimal-is c.args.n c.ranges.n.fits))
    (omega (arith, c.width.ensures), omega (arith, c.width.ensures, decimal-length c.args.n, c.requires))

pub returns : goal.returns
returns c =
    let e = decimal-is c.args.n c.ranges.n.fits in
    let w = c.write_digits.ensures in
    writes (wrote-to _ _ _ _ _ _ c.width.ensures (omega (arith, decimal-length c.args.n, c.requires)) (rw (← e) at w.start) w.before (rw (← e) at w.written)) refl
