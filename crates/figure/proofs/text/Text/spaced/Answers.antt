use mathlib.Core.List.{append-nil}
use Rattle.model.specs.Listing.{spaced}
use Rattle.figure.proofs.Writes.{writes-both}
use Rattle.figure.proofs.text.Text.spaced.Goals as goal

pub returns : goal.returns
unfolding spaced
returns c = rw append-nil (writes-both c.byte.ensures c.decimal.ensures)
