use native.Mathlib.Omega.{arith}
use Rattle.access.proofs.Answers.{other-heap}
use Rattle.access.proofs.read_formed.Goals as goal

pub returns-in_default : goal.returns-in_default
returns-in_default c = other-heap _ _ (omega (arith, c.in_default.in_default-own.rest))
