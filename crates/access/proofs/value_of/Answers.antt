use native.Mathlib.Omega.{arith}
use Rattle.access.proofs.Writes.{value-valid}
use Rattle.access.proofs.value_of.Goals as goal

pub at-requires : goal.at-requires
at-requires c = omega (arith, c.args.cell.one)

pub value-requires : goal.value-requires
value-requires c = rw c.at.ensures (value-valid _ c.args.cell.one c.args.cell.whole)
