use mathlib.Core.Path.{◌≡◌, ap, ◌∙◌}
use borrow.Author.Rules.{rules}
use mir.Syntax.{w64}
use mir.Val.{of_z}
use mir.ValLaws.{to_z-of_z}
use Rattle.question.proofs.Passing.{refused_as}
use Rattle.access.proofs.Writes.{old-there, old-stored, old-refused}
use Rattle.access.proofs.store_old.Goals as goal
use Rattle.access.proofs.store_old.Goals.{After-cast_unsigned}

word : (c : After-cast_unsigned) → c.cast_unsigned.result ≡ of_z w64 c.args.p.offset
word c = c.cast_unsigned.ensures ∙ ap (of_z w64) (to_z-of_z w64 c.args.p.offset (search rules))

pub write_elder-requires : goal.write_elder-requires
write_elder-requires c = let all = (old-there _ _ c.args.cell.words.now c.requires.value c.value_of-new.ensures c.recount.ensures c.in_ok-recount.was c.requires.offset_in_bounds) in record { image = all.0; offset_in_bounds = rw (word (goal.at.write_elder-requires c).After-cast_unsigned) all.1 }

pub returns : goal.returns
returns c =
    old-stored _ _ c.args.cell.words.now c.requires.value c.value_of-new.ensures c.recount.ensures c.in_ok-recount.was (rw (word (goal.at.returns c).After-cast_unsigned) at c.write_elder.ensures)

pub returns-in_err-recount : goal.returns-in_err-recount
returns-in_err-recount c =
    rw (refused_as c.from_residual.result _ c.from_residual.ensures.1)
    (old-refused _ _ c.args.cell.words.now c.requires.value c.value_of-new.ensures c.recount.ensures _ c.in_err-recount.was)
