use native.Mathlib.Omega.{arith}
use Rattle.image.proofs.Scans.{flag-absent, flag-present, flag-bad}
use Rattle.image.proofs.counts.barrier.Goals as goal

pub returns-in-0 : goal.returns-in-0
returns-in-0 c = let a = c.args in flag-absent a.flag a.counts.now (omega arith) c.at_most.ensures

pub returns-in-1 : goal.returns-in-1
returns-in-1 c = let a = c.args in flag-present a.flag a.counts.now (omega arith) c.at_most-in-1.ensures

pub returns-in_default : goal.returns-in_default
returns-in_default c = let a = c.args in flag-bad a.flag a.counts.now c.in_default.in_default-own.rest.0.1 c.in_default.in_default-own.rest.1
