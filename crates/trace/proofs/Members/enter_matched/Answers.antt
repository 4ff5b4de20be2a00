use Rattle.std.proofs.Common.{◌≡◌, ℕ, List, [], ◌∷◌, length, true, sym, refl, ◌∙◌, arith}
use Rattle.std.specs.Bool.{◌==◌}
use borrow.Author.Tests.{eqb-true}
use Rattle.model.specs.Lists.{places, keep_if}
use Rattle.model.specs.Barrier.{matches}
use Rattle.model.specs.Nursery.{matched}
use Rattle.trace.proofs.Places.{base-next, base-end}
use Rattle.trace.proofs.Entering.{none-entered, enter-room, enter-turn, enter-done}
use Rattle.trace.proofs.Members.enter_matched.Goals as goal

none-matched : (own : ℕ) (bs : List ℕ) → matched own [] bs ≡ []
unfolding matched keep_if matches
none-matched own [] = refl
none-matched own (b ∷ bs) = none-matched own bs

no-words : (ms : List ℕ) → true ≡ (length ms == 0) → ms ≡ []
no-words [] e = refl
no-words (m ∷ ms) e = absurd (omega (arith, eqb-true (length (m ∷ ms)) 0 (sym e)))

pub returns-then-is_empty : goal.returns-then-is_empty
returns-then-is_empty c =
    let none : c.args.masks.now ≡ [] = no-words c.args.masks.now (sym c.if-is_empty.true ∙ c.is_empty.ensures) in
    none-entered _ _ (rw none (none-matched c.args.own (places 0 c.args.lens.now)))

pub enter_base-requires : goal.enter_base-requires
enter_base-requires c = enter-room c.loop-b.invariant _ _ (base-next _ _ _ _ c.loop-b-test.true)

pub loop-b-preserved : goal.loop-b-preserved
loop-b-preserved c = enter-turn c.loop-b.invariant _ _ (base-next _ _ _ _ c.loop-b-test.true) c.enter_base.ensures

pub returns : goal.returns
returns c = enter-done c.loop-b.invariant (base-end _ _ _ _ c.loop-b-test.false)
