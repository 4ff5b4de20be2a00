use native.Mathlib.Omega.{arith}
use borrow.Author.Rules.{rules}
use Rattle.model.specs.Listing.{line}
use Rattle.figure.proofs.Digits.{decimal-length}
use Rattle.figure.proofs.Writes.{writes-both, handed-back}
use Rattle.lines.proofs.Lengths.{answer-length}
use Rattle.lines.proofs.line.Goals as goal

pub byte-requires : goal.byte-requires
byte-requires c = omega (arith, c.decimal.ensures, decimal-length c.args.number, c.requires)

pub text-requires : goal.text-requires
text-requires c = omega (arith, c.byte.ensures, c.decimal.ensures, decimal-length c.args.number, c.requires)

pub byte-requires-2 : goal.byte-requires-2
byte-requires-2 c = omega (arith, c.text.ensures, answer-length c.args.answer, c.byte.ensures, c.decimal.ensures, decimal-length c.args.number, c.requires)

pub returns : goal.returns
unfolding line
returns c =
    handed-back (writes-both (writes-both c.decimal.ensures (writes-both c.byte.ensures c.text.ensures)) c.byte-2.ensures) (search rules)
