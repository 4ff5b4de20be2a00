use Rattle.image.specs.Conditions.{young_good}
use Rattle.image.proofs.Bounds.{said-no, said-yes}
use Rattle.image.proofs.Offsets.{young-lengths, young-cells}
use Rattle.image.proofs.form.Measured.young.Goals as goal

pub returns-then-tiled : goal.returns-then-tiled
unfolding young_good
returns-then-tiled c =
    let p = c.layout_of-l.ensures in
    let tiled = rw (c.young_lengths.ensures, young-lengths p) at c.tiled.ensures in
    let whole = rw (c.young_cells.ensures, young-cells p) at c.whole.ensures in
    rw (said-yes tiled c.if-tiled.true) whole

pub returns-else-tiled : goal.returns-else-tiled
unfolding young_good
returns-else-tiled c =
    let tiled = rw (c.young_lengths.ensures, young-lengths c.layout_of-l.ensures) at c.tiled.ensures in
    rw (said-no tiled c.if-tiled.false) c.if-tiled.false
