use mathlib.Core.Path.{◌≡◌, ap, ◌∙◌}
use borrow.Author.Rules.{rules}
use mir.Syntax.{w64}
use mir.Val.{of_z}
use mir.ValLaws.{to_z-of_z}
use Rattle.model.specs.Image.{decode}
use Rattle.model.specs.Collector.{read}
use Rattle.trace.specs.Words.{pointer}
use Rattle.slots.specs.Slots.{ReadBy}
use Rattle.question.proofs.Passing.{refused_as}
use Rattle.question.specs.declared.Question.TheVariants.{Access}
use Rattle.access.proofs.Answers.{read_at, old-none, old-valid, old-loaded}
use Rattle.access.proofs.read_old.Goals as goal
use Rattle.access.proofs.read_old.Goals.{After-read_elder}

-- the offset's word is the pointer's
was_read : (c : After-read_elder) → ReadBy (read (decode c.args.image.words.now) (pointer 1 c.args.p.base (of_z w64 c.args.p.offset))) c.read_elder.result
was_read c =
    read_at (decode c.args.image.words.now) c.args.p.base (c.cast_unsigned-offset.ensures ∙ ap (of_z w64) (to_z-of_z w64 c.args.p.offset (search rules))) c.read_elder.ensures

pub returns-in_err-cell : goal.returns-in_err-cell
returns-in_err-cell c =
    let none = c.in_err-cell.ensures.ok_part in
    let asked = rw none at c.in_err-cell.ensures.value in
    let is : c.in_err-cell.field-0.0 ≡ Access = cc in
    rw (refused_as c.from_residual.result _ c.from_residual.ensures.1, is) (old-none (was_read (goal.at.returns-in_err-cell c).After-read_elder) none)

pub cell_value-requires : goal.cell_value-requires
cell_value-requires c = old-valid (was_read (goal.at.cell_value-requires c).After-read_elder) _ c.in_ok-cell.ensures.ok_part

pub returns : goal.returns
returns c = old-loaded (was_read (goal.at.returns c).After-read_elder) _ _ c.in_ok-cell.ensures.ok_part c.cell_value.ensures
