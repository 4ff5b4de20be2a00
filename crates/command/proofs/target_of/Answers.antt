use Rattle.std.proofs.Common.{rules, ◌≡◌, ◌∙◌}
use mir.Syntax.{w64}
use mir.Val.{SFits, of_z}
use mir.ValLaws.{to_z-of_z}
use Rattle.question.specs.declared.Question.TheVariants.{Range}
use Rattle.question.proofs.Passing.{passed_on}
use Rattle.command.proofs.Targets.{no_pointer, beyond, within}
use Rattle.command.proofs.target_of.Goals as goal
use Rattle.command.proofs.target_of.Goals.{In-Pointer}

x_fits : (c : In-Pointer) → SFits w64 c.in-Pointer.p.offset
x_fits c = search rules

pub returns-in_default : goal.returns-in_default
returns-in_default c = no_pointer c.args.v (of_z w64 c.args.offset) c.in_default.not-Pointer

pub returns-in_err-offset : goal.returns-in_err-offset
returns-in_err-offset c =
    let f = x_fits (goal.at.returns-in_err-offset c).In-Pointer in
    let g = c.ranges.offset in
    let none = c.in_err-offset.ensures.ok_part in
    let asked = rw none at c.in_err-offset.ensures.value in
    let q : c.in_err-offset.field-0.0 ≡ Range = cc in
    passed_on _ c.from_residual.result _ c.from_residual.ensures.1
    ∙ rw q (beyond c.args.v c.in-Pointer.p c.args.offset c.in-Pointer.is f g (rw (to_z-of_z w64 c.in-Pointer.p.offset f, to_z-of_z w64 c.args.offset g) at (rw none at c.checked_add.ensures)))

pub returns : goal.returns
returns c =
    let f = x_fits (goal.at.returns c).In-Pointer in
    let g = c.ranges.offset in
    let s = rw (to_z-of_z w64 c.in-Pointer.p.offset f, to_z-of_z w64 c.args.offset g) at (rw c.in_ok-offset.ensures.ok_part at c.checked_add.ensures) in
    rw (s.1, to_z-of_z w64 _ s.0) (within c.args.v c.in-Pointer.p c.args.offset c.in-Pointer.is f g s.0)
