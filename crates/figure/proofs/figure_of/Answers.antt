use mathlib.Core.Path.{◌≡◌, refl, sym, ap, subst, ◌∙◌}
use mathlib.Core.Bool.{true}
use lib.Dec.{T}
use lib.Ieee.{Float, nan, inf, fin, binary64, is_nan}
use lib.Ieee.Bits.{of_bits-to_bits}
use borrow.Author.Rules.{rules}
use Rattle.model.specs.Res.{refuse}
use Rattle.model.specs.Figure.{figure_of, figure}
use Rattle.figure.proofs.figure_of.Goals as goal

nan-refused : (x : Float) → is_nan x ≡ true → refuse 15 ≡ figure_of x
unfolding is_nan figure_of
nan-refused nan h = refl
nan-refused (inf s) h = refl
nan-refused (fin s m e) h = absurd (subst T (sym h) tt)

pub returns-then-is_nan : goal.returns-then-is_nan
returns-then-is_nan c = nan-refused c.args.x (sym c.if-is_nan.ensures.value)

pub returns : goal.returns
unfolding figure
returns c = c.figure_of_bits.ensures ∙ ap figure_of (of_bits-to_bits binary64 c.args.x (search rules))
