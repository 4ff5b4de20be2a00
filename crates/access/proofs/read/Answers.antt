use Rattle.model.specs.Calls.{read_on}
use Rattle.question.proofs.Passing.{refused_as}
use Rattle.access.specs.Access.{pointer_of}
use Rattle.image.proofs.Opened.{formed-image, formed-opened, refused-opened}
use Rattle.access.proofs.Answers.{loads-formed, loads-unformed}
use Rattle.access.proofs.read.Goals as goal

pub invariant_of-read_formed : goal.invariant_of-read_formed
invariant_of-read_formed c = record { formed = formed-image _ c.check.ensures c.in_ok-check.was }

pub returns : goal.returns
returns c =
    loads-formed _ (pointer_of c.args.p) (formed-opened _ c.check.ensures (λ h. read_on h (pointer_of c.args.p)) c.in_ok-check.was) c.read_formed.ensures

pub returns-in_err-check : goal.returns-in_err-check
returns-in_err-check c =
    rw (refused_as c.from_residual.result _ c.from_residual.ensures.1) (loads-unformed _ (pointer_of c.args.p) _ (refused-opened _ c.check.ensures (λ h. read_on h (pointer_of c.args.p)) _ c.in_err-check.was))
