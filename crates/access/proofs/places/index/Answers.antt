use borrow.Author.Rules.{rules}
use mathlib.Core.Path.{◌≡◌, sym, ◌∙◌}
use Prim.Native.Nat.{ℕ}
use lib.IntN.{ℤ, pos, nat_abs, ◌+ℤ◌}
use mir.Syntax.{w64}
use mir.Val.{Fits, SFits, of_z, to_z}
use Rattle.std.specs.Int.{FitsUnsignedBits}
use Rattle.std.proofs.lemmas.Int.{of_z-to_z, to_z-of_z}
use Rattle.std.proofs.Math.Facts.{Fits-of_z}
use Rattle.question.proofs.Passing.{refused_as}
use Rattle.question.specs.declared.Question.TheVariants.{Range}
use Rattle.access.proofs.Sums.{no-sum, before, beyond, inside, sized}
use Rattle.access.proofs.places.index.Goals as goal
use Rattle.access.proofs.places.index.Goals.{In_ok-sum}

abbrev sum : ℕ → ℤ → ℤ
sum b d = to_z w64 b +ℤ to_z w64 (of_z w64 d)

-- a word that was read as i64, as the machine reads it back
again : (b : ℕ) (x d : ℤ) → Fits w64 b → x ≡ to_z w64 b → to_z w64 (of_z w64 x) +ℤ to_z w64 (of_z w64 d) ≡ sum b d
again b x d f e = rw (e, of_z-to_z w64 b f.fits)

pub returns-in_err-sum : goal.returns-in_err-sum
returns-in_err-sum c h e =
    let b : Fits w64 c.args.p.base = search rules in
    let d : SFits w64 c.args.p.offset = search rules in
    let none = c.in_err-sum.ensures.ok_part in
    let asked = rw none at c.in_err-sum.ensures.value in
    let is : c.in_err-sum.field-0.0 ≡ Range = cc in
    let out = rw (again _ _ c.args.p.offset b c.cast_signed-base.ensures) at (rw none at c.checked_add.ensures) in
    rw (refused_as c.from_residual.result _ c.from_residual.ensures.1, is) (no-sum h c.args.p.base (of_z w64 c.args.p.offset) b.fits (Fits-of_z d).fits out)

module _ (c : In_ok-sum) where
  base : Fits w64 c.args.p.base
  base = search rules

  offset : Fits w64 (of_z w64 c.args.p.offset)
  offset = let d : SFits w64 c.args.p.offset = search rules in Fits-of_z d

  -- the sum, within i64
  summed : SFits w64 (sum c.args.p.base c.args.p.offset) × (c.in_ok-sum.sum ≡ sum c.args.p.base c.args.p.offset)
  summed = rw (again _ _ c.args.p.offset base c.cast_signed-base.ensures) at (rw c.in_ok-sum.ensures.ok_part at c.checked_add.ensures)

  same : to_z w64 (of_z w64 c.in_ok-sum.sum) ≡ sum c.args.p.base c.args.p.offset
  same = rw summed.1 (to_z-of_z w64 (sum c.args.p.base c.args.p.offset) summed.0)

  -- an index
  found : (i : ℕ) → FitsUnsignedBits 64 (to_z w64 (of_z w64 c.in_ok-sum.sum)) × (i ≡ nat_abs (to_z w64 (of_z w64 c.in_ok-sum.sum))) → sum c.args.p.base c.args.p.offset ≡ pos i
  found i (fits, is) = sym same ∙ sized _ _ fits (sym is)

pub returns-in-Ok : goal.returns-in-Ok
returns-in-Ok c h e =
    let some = (goal.at.returns-in-Ok c).In_ok-sum in
    inside h c.args.p.base (of_z w64 c.args.p.offset) (base some).fits (offset some).fits c.in-Ok.at c.args.n (found some c.in-Ok.at c.in-Ok.ensures) (summed some).0 e c.if-at-n.true

pub returns-in_default : goal.returns-in_default
returns-in_default c h e =
    let some = (goal.at.returns-in_default c).In_ok-sum in
    beyond h c.args.p.base (of_z w64 c.args.p.offset) (base some).fits (offset some).fits c.in-Ok.at c.args.n (found some c.in-Ok.at c.in-Ok.ensures) (summed some).0 e c.if-at-n.false

pub returns-in_default-2 : goal.returns-in_default-2
returns-in_default-2 c h e =
    let some = (goal.at.returns-in_default-2 c).In_ok-sum in
    before h c.args.p.base (of_z w64 c.args.p.offset) (base some).fits (offset some).fits _ (sym (same some)) (summed some).0 c.in_default.ensures
