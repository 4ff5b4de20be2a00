use native.Mathlib.Omega.{arith}
use borrow.Author.Rules.{rules}
use Rattle.fields.proofs.Parts.{header-in}
use Rattle.fields.proofs.Turned.{bump-room, bump-turns}
use Rattle.fields.proofs.bump.Goals as goal

pub offset_bounds-image-at : goal.offset_bounds-image-at
offset_bounds-image-at c = omega (arith, bump-room _ c.header_of-at.ensures.cursor c.requires.amount_nonzero.1 c.requires.image)

pub bounds-image-at : goal.bounds-image-at
bounds-image-at c = omega (arith, bump-room _ c.header_of-at.ensures.cursor c.requires.amount_nonzero.1 c.requires.image)

pub bounds-image-4 : goal.bounds-image-4
bounds-image-4 c = search (header-in c.requires.image, rules)

pub overflow_add-image : goal.overflow_add-image
overflow_add-image c = omega (arith, bump-room _ c.header_of-at.ensures.cursor c.requires.amount_nonzero.1 c.requires.image)

pub returns-clause-turns : goal.returns-clause-turns
returns-clause-turns c = bump-turns _ c.header_of-at.ensures.cursor c.requires.amount_nonzero.1 c.requires.amount_nonzero.0
