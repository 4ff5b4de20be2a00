use mathlib.Core.Path.{refl}
use native.Mathlib.Omega.{arith}
use Rattle.figure.proofs.Writes.{wrote-byte, writes}
use Rattle.figure.proofs.text.Text.byte.Goals as goal

pub returns : goal.returns
returns c = writes (wrote-byte c.args.self.now.out.now c.args.self.now.at c.args.b (omega (arith, c.requires))) refl
