use Rattle.figure.proofs.Writes.{writes-both}
use Rattle.figure.proofs.text.Text.decimals.Goals as goal

pub returns : goal.returns
returns c = writes-both (writes-both (writes-both c.byte.ensures c.digit.ensures) c.digit-2.ensures) c.digit-3.ensures
