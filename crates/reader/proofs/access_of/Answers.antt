use mathlib.Core.Path.{◌∙◌}
use native.Mathlib.Omega.{arith}
use mir.Syntax.{w64}
use mir.ValLaws.{to_z-of_z}
use Rattle.question.proofs.Passing.{refused_as}
use Rattle.reader.proofs.Fields.{field_one}
use Rattle.reader.proofs.Registers.{first-high, second-high}
use Rattle.reader.proofs.access_of.Goals as goal

pub returns-in_err-try_from : goal.returns-in_err-try_from
returns-in_err-try_from c =
    let w = c.args.w.now in
    let (twelve, high) = c.in_err-try_from.ensures in
    rw (refused_as _ _ c.from_residual.ensures.1, ← field_one w 0 (omega arith)) (twelve, first-high _ _ high)

pub returns-in_err-try_from-2 : goal.returns-in_err-try_from-2
returns-in_err-try_from-2 c =
    let w = c.args.w.now in
    let (twelve, high) = c.in_err-try_from-2.ensures in
    rw (refused_as _ _ c.from_residual-in_err-try_from-2.ensures.1, ← field_one w 0 (omega arith), ← field_one w 1 (omega arith), ← c.in_ok-try_from.ensures) (twelve, second-high c.in_ok-try_from.field-0 _ high)

pub returns : goal.returns
returns c =
    let w = c.args.w.now in
    (c.in_ok-try_from.ensures ∙ field_one w 0 (omega arith), c.in_ok-try_from-2.ensures ∙ field_one w 1 (omega arith), rw (to_z-of_z w64 c.signed_at.result (record { sfits = c.signed_at.type_inv })) c.signed_at.ensures)
