use mathlib.Core.Path.{ap, ◌∙◌}
use mathlib.Core.List.{[], ◌∷◌}
use Prim.Native.Nat.{ℕ}
use mir.Syntax.{w64}
use mir.Val.{of_z}
use mir.ValLaws.{to_z-of_z}
use borrow.Author.Rules.{rules}
use Rattle.model.specs.Listing.{spaced, cell_text}
use Rattle.value.specs.Value.{value_cell}
use Rattle.lines.proofs.Cells.{plain-text}
use Rattle.lines.proofs.cell_numbers.Goals as goal

pub returns-in-Pointer : goal.returns-in-Pointer
unfolding cell_text value_cell
returns-in-Pointer c =
    let p = c.in-Pointer.p in
    rw (c.in-Pointer.is, c.from.ensures) (ap (λ (o : ℕ). spaced (5 ∷ p.heap ∷ p.base ∷ o ∷ [])) (c.cast_unsigned.ensures ∙ ap (of_z w64) (to_z-of_z w64 p.offset (search rules))))

pub returns-in_default : goal.returns-in_default
returns-in_default c =
    let w = c.from-w.result in
    plain-text c.args.v w.tag w.payload w.offset c.in_default.not-Pointer c.from-w.ensures
