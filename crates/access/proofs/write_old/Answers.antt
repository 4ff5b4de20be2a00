use mathlib.Core.Path.{◌≡◌, refl, sym, ap, ◌∙◌}
use mir.Syntax.{w64}
use mir.Val.{of_z}
use Rattle.model.specs.Image.{decode}
use Rattle.model.specs.Collector.{read}
use Rattle.trace.specs.Words.{pointer}
use Rattle.question.proofs.Passing.{refused_as}
use Rattle.access.specs.Access.{loaded_cell}
use Rattle.access.proofs.Writes.{left-refused, old-read, old-written, old-unread}
use Rattle.access.proofs.write_old.Goals as goal
use Rattle.access.proofs.write_old.Goals.{After-read_old}

was_read : (c : After-read_old) → loaded_cell c.read_old.result ≡ read (decode c.args.image.now) (pointer 1 c.args.p.base (of_z w64 c.args.p.offset))
was_read c = c.read_old.ensures.cell

pub store_old-requires : goal.store_old-requires
unfolding loaded_cell
store_old-requires c =
    let t = old-read c.args.image.now c.args.p.base (of_z w64 c.args.p.offset) (sym (was_read (goal.at.store_old-requires c).After-read_old) ∙ ap loaded_cell c.in_ok-old.was) in
    record {
      image = c.requires;
      offset_in_bounds = t.0;
      value = t.1;
    }

pub returns : goal.returns
unfolding loaded_cell
returns c =
    let t = old-read c.args.image.now c.args.p.base (of_z w64 c.args.p.offset) (sym (was_read (goal.at.returns c).After-read_old) ∙ ap loaded_cell c.in_ok-old.was) in
    rw (old-written c.args.image.now c.args.p.base (of_z w64 c.args.p.offset) _ t.0) at c.store_old.ensures

pub returns-in_err-old : goal.returns-in_err-old
unfolding loaded_cell
returns-in_err-old c =
    rw (refused_as c.from_residual.result _ c.from_residual.ensures.1)
    (left-refused _ (old-unread c.args.image.now c.args.p.base (of_z w64 c.args.p.offset) _ _ (sym (was_read (goal.at.returns-in_err-old c).After-read_old) ∙ ap loaded_cell c.in_err-old.was)) refl)
