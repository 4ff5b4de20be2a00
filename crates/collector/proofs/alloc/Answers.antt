use mathlib.Core.Path.{ap, ◌∙◌}
use mir.Syntax.{w64}
use mir.Val.{of_z}
use mir.ValLaws.{to_z-of_z}
use Rattle.image.proofs.Opened.{formed-image}
use Rattle.question.proofs.Passing.{refused_as}
use Rattle.collector.proofs.Asking.{formed-call, refused-call}
use Rattle.collector.proofs.alloc.Goals as goal

pub alloc_formed-requires : goal.alloc_formed-requires
alloc_formed-requires c = formed-image _ c.check.ensures c.in_ok-check.was

pub returns : goal.returns
returns c =
    let asked = c.check.ensures in
    let same = ap (of_z w64) (to_z-of_z w64 c.args.amount c.ranges.amount) in
    formed-call _ asked c.args.roots.now _ _ same c.in_ok-check.was ∙ c.alloc_formed.ensures

pub returns-in_err-check : goal.returns-in_err-check
returns-in_err-check c = rw (refused_as c.from_residual.result _ c.from_residual.ensures.1) (refused-call _ c.check.ensures c.args.roots.now _ _ _ c.in_err-check.was)
