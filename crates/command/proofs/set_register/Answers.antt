use mathlib.Core.Path.{refl}
use Rattle.question.proofs.Passing.{refused_as}
use Rattle.command.proofs.Stepping.{set-refused, set-done}
use Rattle.command.proofs.set_register.Goals as goal

pub returns-in_err-v : goal.returns-in_err-v
returns-in_err-v c w h =
    set-refused h c.requires _ c.try_from.ensures c.in_err-v.was (refused_as c.from_residual.result _ c.from_residual.ensures.1, refl)

pub returns : goal.returns
returns c w h = set-done h c.requires _ c.try_from.ensures c.in_ok-v.was c.set.ensures
