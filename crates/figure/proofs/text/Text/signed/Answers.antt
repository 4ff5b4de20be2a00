use mir.Syntax.{w64}
use mir.ValLaws.{to_z-of_z}
use Rattle.figure.proofs.Signs.{signed-text}
use Rattle.figure.proofs.Writes.{writes-both}
use Rattle.figure.proofs.text.Text.signed.Goals as goal

pub returns : goal.returns
returns c =
    let x = c.args.x in
    rw (signed-text x c.ranges.x, ← (to_z-of_z w64 x c.ranges.x), ← c.unsigned_abs.ensures.value)
    (writes-both c.minus.ensures c.decimal.ensures)
