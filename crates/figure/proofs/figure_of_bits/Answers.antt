use mathlib.Core.Path.{sym, ap, ◌∙◌}
use mathlib.Core.Bool.{Bool}
use Prim.Native.Nat.{ℕ, ◌/◌, ◌%◌, ◌^◌}
use native.Mathlib.Nat.{pos_of_ne-zero}
use lib.Dec.{leb}
use lib.Ieee.{binary64, of_bits, of_fields}
use Rattle.model.specs.Figure.{figure_of, figure}
use Rattle.figure.specs.Answer.{limited}
use Rattle.figure.proofs.Fields.{fields-zero, fields-some, fields-big}
use Rattle.figure.proofs.figure_of_bits.Goals as goal

abbrev sign : ℕ → Bool
sign bits = leb (2 ^ 63) bits

abbrev field : ℕ → ℕ
field bits = bits % 2 ^ 63 / 2 ^ 52

pub returns-then-field-ge-TOO_LARGE : goal.returns-then-field-ge-TOO_LARGE
unfolding figure of_bits
returns-then-field-ge-TOO_LARGE c = let b = c.args.bits in sym (fields-big (sign b) (field b) (b % 2 ^ 52) c.if-field-ge-TOO_LARGE.true)

pub returns-then-field-eq0 : goal.returns-then-field-eq0
unfolding figure of_bits
returns-then-field-eq0 c =
    let b = c.args.bits in
    c.within_limit.ensures ∙ ap (limited (sign b)) c.thousandths.ensures ∙ sym (fields-zero (sign b) (b % 2 ^ 52))
    ∙ ap (λ n. figure_of (of_fields binary64 (sign b) n (b % 2 ^ 52))) (sym c.if-field-eq0.true)

pub returns : goal.returns
unfolding figure of_bits
returns c =
    let b = c.args.bits in
    c.within_limit-2.ensures ∙ ap (limited (sign b)) c.thousandths-2.ensures
    ∙ sym (fields-some (sign b) (field b) (b % 2 ^ 52) (pos_of_ne-zero c.if-field-eq0.false) c.if-field-ge-TOO_LARGE.false)
