use mathlib.Core.Path.{refl}
use native.Mathlib.Omega.{arith}
use Rattle.figure.proofs.Writes.{wrote_none, writes}
use Rattle.figure.proofs.text.Text.minus.Goals as goal

pub returns-else-negative : goal.returns-else-negative
returns-else-negative c = rw c.if-negative.false (writes (wrote_none _ _ (omega (arith, c.requires))) refl)
