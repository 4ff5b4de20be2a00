use Rattle.question.proofs.Passing.{passed_on}
use Rattle.layout.proofs.Tail.{turned-image}
use Rattle.fields.proofs.Turned.{next-image}
use Rattle.pointers.proofs.Changing.{does-image, young-changed, old-changed, both-changed, young-refused}
use Rattle.pointers.proofs.change.Goals as goal

pub count-requires : goal.count-requires
count-requires c = next-image c.swap_young-young.ensures.turns c.requires

-- the nursery's cells changed and counted
pub swap_elder-old-requires : goal.swap_elder-old-requires
swap_elder-old-requires c =
    let s = c.swap_young-young.ensures in
    does-image _ c.requires (young-changed _ s.turns s.value c.count.ensures) _ c.in_ok-count.was

pub returns-in_err-count : goal.returns-in_err-count
returns-in_err-count c =
    let s = c.swap_young-young.ensures in
    rw (passed_on (λ u. u) c.from_residual.result _ c.from_residual.ensures.1) (young-refused _ _ (young-changed _ s.turns s.value c.count.ensures) _ c.in_err-count.was)

pub count-requires-2 : goal.count-requires-2
count-requires-2 c =
    let s = c.swap_young-young.ensures in
    turned-image (does-image _ c.requires (young-changed _ s.turns s.value c.count.ensures) _ c.in_ok-count.was) c.swap_elder-old.ensures.turned

pub returns : goal.returns
returns c =
    let s = c.swap_young-young.ensures in
    let o = c.swap_elder-old.ensures in
    both-changed _ _ (young-changed _ s.turns s.value c.count.ensures) _ c.in_ok-count.was (old-changed _ o.turned o.value c.count-2.ensures)
