use Rattle.command.proofs.Stepping.{figure-other, figure-refused, figure-done}
use mathlib.Core.Path.{refl}
use Rattle.question.proofs.Passing.{refused_as}
use Rattle.command.proofs.take_figure.Goals as goal

pub returns-in_default : goal.returns-in_default
returns-in_default c w h =
    figure-other _ h c.requires c.get.result c.get.ensures c.in_default.not-Float (refl, refl)

pub returns : goal.returns
returns c w h =
    let good = c.requires in
    figure-done _ h good c.get.result c.get.ensures c.in-Float.is c.figure_of.result c.figure_of.ensures c.in_ok-f.was

pub returns-in_err-f : goal.returns-in_err-f
returns-in_err-f c w h =
    let good = c.requires in
    figure-refused _ h good c.get.result c.get.ensures c.in-Float.is c.figure_of.result c.figure_of.ensures c.in_err-f.was (refused_as c.from_residual.result _ c.from_residual.ensures.1, refl)
