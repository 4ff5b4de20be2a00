use native.Mathlib.Omega.{arith}
use Rattle.model.specs.Listing.{figure_text}
use Rattle.figure.proofs.Digits.{decimal-length}
use Rattle.figure.proofs.Writes.{writes-both, sign-length}
use Rattle.figure.proofs.text.Text.figure.Goals as goal

pub decimals-requires : goal.decimals-requires
decimals-requires c = omega (arith, c.decimal.ensures, decimal-length, c.minus.ensures, sign-length, c.requires)

pub returns : goal.returns
unfolding figure_text
returns c = writes-both (writes-both c.minus.ensures c.decimal.ensures) c.decimals.ensures
