use borrow.Author.Tests.{lt-ltb, le-ltb}
use Rattle.value.specs.Value.{value_cell}
use Rattle.access.specs.Counting.{gone_if}
use Rattle.access.proofs.counted_value.Goals as goal

pub returns-then-i-header_of : goal.returns-then-i-header_of
unfolding gone_if
returns-then-i-header_of c = rw (c.header_of.ensures.cursor.reads _ c.args.image.formed, lt-ltb c.args.i _ c.if-i-header_of.true) c.young_value.ensures.cell

pub returns : goal.returns
unfolding gone_if value_cell
returns c = rw (c.header_of.ensures.cursor.reads _ c.args.image.formed, le-ltb c.args.i _ c.if-i-header_of.false)
