use native.Mathlib.Omega.{arith}
use mathlib.Core.Path.{◌≡◌, ◌∙◌}
use mathlib.Core.Bool.{true}
use Prim.Native.Nat.{◌/◌, ◌≤◌}
use lib.IntN.{nat_abs}
use lib.ListN.{length}
use mir.Syntax.{w64}
use mir.Val.{to_z, of_z}
use Rattle.model.specs.Image.{decode}
use Rattle.model.specs.Calls.{roots_good, scratch_length}
use Rattle.image.proofs.Bounds.{said-no, said-yes}
use Rattle.collector.proofs.Asking.{Amount, amount-is, roots-refused, scratch-refused, amount-refused, asked-amount, asked-collect}
use Rattle.collector.proofs.alloc_formed.Goals as goal
use Rattle.collector.proofs.alloc_formed.Goals.{Else-amount-le0, Else-not-roots_ok, Else-scratch-scratch_for}

good : (c : Else-not-roots_ok) → roots_good c.args.roots.now ≡ true
good c = said-yes c.roots_ok.ensures c.if-not-roots_ok.false

room : (c : Else-scratch-scratch_for) → scratch_length (decode c.args.image.now).size (length c.args.roots.now / 3) ≤ length c.args.scratch.now
room c = omega (arith, c.scratch_for.ensures, c.if-scratch-scratch_for.false)

amount : (c : Else-amount-le0) → Amount c.args.amount (nat_abs (to_z w64 (of_z w64 c.args.amount)))
amount c = amount-is c.args.amount c.ranges.amount c.if-amount-le0.false

pub returns-then-not-roots_ok : goal.returns-then-not-roots_ok
returns-then-not-roots_ok c = roots-refused _ _ _ c.args.amount (said-no c.roots_ok.ensures c.if-not-roots_ok.true)

pub returns-then-scratch-scratch_for : goal.returns-then-scratch-scratch_for
returns-then-scratch-scratch_for c =
    scratch-refused _ _ _ c.args.amount (good (goal.at.returns-then-scratch-scratch_for c).Else-not-roots_ok) (omega (arith, c.scratch_for.ensures, c.if-scratch-scratch_for.true))

pub returns-then-amount-le0 : goal.returns-then-amount-le0
returns-then-amount-le0 c =
    amount-refused _ _ _ c.args.amount (good (goal.at.returns-then-amount-le0 c).Else-not-roots_ok) (room (goal.at.returns-then-amount-le0 c).Else-scratch-scratch_for) c.ranges.amount c.if-amount-le0.true

pub returns-then-fits : goal.returns-then-fits
returns-then-fits c =
    asked-amount _ _ _ _ (good (goal.at.returns-then-fits c).Else-not-roots_ok) (room (goal.at.returns-then-fits c).Else-scratch-scratch_for) (amount (goal.at.returns-then-fits c).Else-amount-le0) ∙ c.stay_young.ensures _ (good (goal.at.returns-then-fits c).Else-not-roots_ok)

pub returns : goal.returns
returns c =
    let large = c.fits.ensures.reads _ c.requires ∙ c.if-fits.false in
    asked-collect _ _ _ _ (good (goal.at.returns c).Else-not-roots_ok) (room (goal.at.returns c).Else-scratch-scratch_for) (amount (goal.at.returns c).Else-amount-le0) large ∙ c.collect_for.ensures
