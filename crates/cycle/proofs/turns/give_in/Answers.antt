use Rattle.std.proofs.Common.{Ok, ap, sym, ◌∙◌}
use Rattle.question.proofs.Passing.{refused_as}
use Rattle.cycle.proofs.Giving.{placed, bump_gives, give-new, give-move, give-young, new-asked}
use Rattle.cycle.proofs.turns.give_in.Goals as goal

pub returns-in_err-place-in-New : goal.returns-in_err-place-in-New
returns-in_err-place-in-New c =
    let refused = refused_as c.from_residual.result _ c.from_residual.ensures.1 ∙ sym (ap placed c.in_err-place-in-New.was) in
    give-new _ _ _ _ _ c.in-New.is c.if-left-eq1.true c.place.ensures refused

pub returns-then-left-eq1 : goal.returns-then-left-eq1
returns-then-left-eq1 c =
    give-new _ _ _ _ _ c.in-New.is c.if-left-eq1.true c.place.ensures (ap Ok c.at.ensures ∙ sym (ap placed c.in_ok-place-in-New.was))

pub bump-requires : goal.bump-requires
bump-requires c = record {
  image = c.requires.image;
  amount_nonzero = new-asked _ _ _ c.requires.asked _ _ c.in-New.is c.if-left-eq1.false c.requires.image_value;
}

pub returns-else-left-eq1 : goal.returns-else-left-eq1
returns-else-left-eq1 c = give-young _ _ _ _ c.in-New.is c.if-left-eq1.false (bump_gives _ _ c.bump.ensures.base c.bump.ensures.turns c.at-in-New.ensures)

pub returns-in_err-place_part-in-Move : goal.returns-in_err-place_part-in-Move
returns-in_err-place_part-in-Move c =
    let refused = refused_as c.from_residual-in_err-place_part-in-Move.result _ c.from_residual-in_err-place_part-in-Move.ensures.1 ∙ sym (ap placed c.in_err-place_part-in-Move.was) in
    give-move _ _ _ _ _ c.in-Move.is c.place_part.ensures refused

pub returns-in_ok-place_part-in-Move : goal.returns-in_ok-place_part-in-Move
returns-in_ok-place_part-in-Move c =
    give-move _ _ _ _ _ c.in-Move.is c.place_part.ensures (ap Ok c.at-in-Move.ensures ∙ sym (ap placed c.in_ok-place_part-in-Move.was))
