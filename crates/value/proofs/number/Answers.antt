use borrow.Author.Tests.{lt-ltb, le-ltb}
use mathlib.Core.Path.{◌≡◌, refl, sym, subst, ◌∙◌}
use mathlib.Core.Bool.{Bool, true, not}
use lib.Dec.{T}
use lib.Ieee.{Float, nan, inf, fin, binary64, is_nan, of_bits, div}
use lib.Ieee.Bits.{nan_bits_above, nan_bits_is}
use Rattle.value.proofs.number.Goals as goal

the_nan : (x : Float) → is_nan x ≡ true → nan ≡ x
unfolding is_nan
the_nan nan h = refl
the_nan (inf s) h = cc
the_nan (fin s m e) h = cc

pub float_from_bits-result : goal.float_from_bits-result
float_from_bits-result c = subst (λ (t : Bool). T (not t)) (sym (nan_bits_above binary64 _ ∙ le-ltb _ _ c.if-bits-gt9218868437227405312.false)) tt

pub returns-then-bits-gt9218868437227405312 : goal.returns-then-bits-gt9218868437227405312
unfolding div of_bits
returns-then-bits-gt9218868437227405312 c =
    the_nan (of_bits binary64 c.args.bits)
    (sym (nan_bits_is binary64 c.args.bits) ∙ nan_bits_above binary64 c.args.bits ∙ lt-ltb _ _ c.if-bits-gt9218868437227405312.true)
