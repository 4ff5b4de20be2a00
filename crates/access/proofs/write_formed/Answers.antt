use native.Mathlib.Omega.{arith}
use mathlib.Core.Path.{◌≡◌, refl, sym, ◌∙◌}
use mathlib.Core.Bool.{true}
use Rattle.model.specs.Calls.{value_good, write_on, left}
use Rattle.image.specs.Answers.{made_outcome}
use Rattle.access.proofs.Writes.{value-length, value-whole, formed-written, formed-other}
use Rattle.access.proofs.write_formed.Goals as goal
use Rattle.access.proofs.write_formed.Goals.{Else-not-value_ok}

good : (c : Else-not-value_ok) → value_good c.args.cell.now ≡ true
good c = sym c.value_ok.ensures ∙ c.if-not-value_ok.false

pub returns-then-not-value_ok : goal.returns-then-not-value_ok
unfolding left write_on made_outcome
returns-then-not-value_ok c = rw (sym c.value_ok.ensures ∙ c.if-not-value_ok.true) refl

pub invariant_of-cell : goal.invariant_of-cell
invariant_of-cell c = let g = good (goal.at.invariant_of-cell c).Else-not-value_ok in record { one = value-length _ g; whole = value-whole _ g }

pub invariant_of-cell-in-1 : goal.invariant_of-cell-in-1
invariant_of-cell-in-1 c = let g = good (goal.at.invariant_of-cell-in-1 c).Else-not-value_ok in record { one = value-length _ g; whole = value-whole _ g }

pub returns-in-0 : goal.returns-in-0
returns-in-0 c =
    let p = c.args.p in
    formed-written _ p _ (good (goal.at.returns-in-0 c).Else-not-value_ok) 0 _ c.in-0.is refl c.write_young.ensures

pub returns-in-1 : goal.returns-in-1
returns-in-1 c =
    let p = c.args.p in
    formed-written _ p _ (good (goal.at.returns-in-1 c).Else-not-value_ok) 1 _ c.in-1.is refl c.write_old.ensures

pub returns-in_default : goal.returns-in_default
returns-in_default c = formed-other _ c.args.p _ (good (goal.at.returns-in_default c).Else-not-value_ok) (omega (arith, c.in_default.in_default-own.rest))
