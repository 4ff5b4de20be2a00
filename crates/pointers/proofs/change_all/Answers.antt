use Rattle.std.proofs.Common.{length}
use Rattle.std.proofs.lemmas.List.{length_push}
use Rattle.question.proofs.Passing.{passed_on}
use Rattle.pointers.proofs.Chunks.{Taken, moved-as, pair-taken, pairs-end}
use Rattle.pointers.proofs.Changing.{changes-begin, changes-turn, changes-refused, changes-end}
use Rattle.trace.specs.Words.{ptr_at}
use Rattle.pointers.specs.Steps.{member_move}
use Rattle.pointers.proofs.change_all.Goals as goal
use Rattle.pointers.proofs.change_all.Goals.{In-Some}

taken : (c : In-Some) → Taken c.args.members.now c.args.bases.now (length c.loop-entry.yielded) (member_move (ptr_at c.in-Some.entry.now 0) c.in-Some.base.now)
taken c = pair-taken _ _ _ c.into_iter-entry-iterator.result c.loop-entry.entry-iterator c.next.new.self _ (cc c.as_chunks.ensures.front) (cc c.zip-entry-items.ensures.second.0) c.loop-entry.yielded_by _ c.in-Some.is c.next.ensures.steps

pub loop-entry-init : goal.loop-entry-init
loop-entry-init c = changes-begin c.requires

pub loop-entry-preserved : goal.loop-entry-preserved
loop-entry-preserved c =
    rw length_push (changes-turn c.loop-entry.invariant (moved-as c.member_move.ensures c.from.ensures (taken (goal.at.loop-entry-preserved c).In-Some)) _ c.change.ensures _ c.in_ok-change.was)

pub returns-in_err-change : goal.returns-in_err-change
returns-in_err-change c =
    rw (passed_on (λ u. u) c.from_residual.result _ c.from_residual.ensures.1)
    (changes-refused c.loop-entry.invariant (moved-as c.member_move.ensures c.from.ensures (taken (goal.at.returns-in_err-change c).In-Some)) _ c.change.ensures _ c.in_err-change.was)

pub returns : goal.returns
returns c = changes-end c.loop-entry.invariant (pairs-end _ _ _ c.into_iter-entry-iterator.result c.loop-entry.entry-iterator c.next.new.self _ (cc c.as_chunks.ensures.front) (cc c.zip-entry-items.ensures.second.0) c.loop-entry.yielded_by c.in-None.is c.next.ensures.steps)
