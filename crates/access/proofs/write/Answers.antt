use mathlib.Core.Path.{sym, ap, ◌∙◌}
use Rattle.model.specs.Calls.{write_on, left, call}
use Rattle.question.proofs.Passing.{refused_as}
use Rattle.image.specs.Answers.{made_outcome}
use Rattle.access.specs.Access.{pointer_of}
use Rattle.image.proofs.Opened.{formed-image, formed-opened, refused-opened}
use Rattle.access.proofs.write.Goals as goal

pub write_formed-requires : goal.write_formed-requires
write_formed-requires c = formed-image _ c.check.ensures c.in_ok-check.was

pub returns : goal.returns
unfolding call
returns c =
    ap (left _) (sym (formed-opened _ c.check.ensures (λ h. write_on h (pointer_of c.args.p) c.args.cell.now) c.in_ok-check.was)) ∙ c.write_formed.ensures

pub returns-in_err-check : goal.returns-in_err-check
unfolding call left made_outcome
returns-in_err-check c =
    rw (refused_as c.from_residual.result _ c.from_residual.ensures.1) (ap (left _) (sym (refused-opened _ c.check.ensures (λ h. write_on h (pointer_of c.args.p) c.args.cell.now) _ c.in_err-check.was)))
