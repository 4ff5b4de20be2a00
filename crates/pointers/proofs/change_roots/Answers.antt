use Rattle.std.proofs.Common.{length}
use Rattle.std.proofs.lemmas.List.{length_push}
use Rattle.trace.specs.Words.{ptr_at}
use Rattle.pointers.specs.Steps.{member_move}
use Rattle.pointers.proofs.Chunks.{Taken, moved-as, pair-taken, pairs-end}
use Rattle.pointers.proofs.Roots.{roots-begin, roots-turn, roots-end}
use Rattle.pointers.proofs.change_roots.Goals as goal
use Rattle.pointers.proofs.change_roots.Goals.{In-Some}

taken : (c : In-Some) → Taken c.args.members.now c.args.bases.now (length c.loop-entry.yielded) (member_move (ptr_at c.in-Some.entry.now 0) c.in-Some.base.now)
taken c =
    pair-taken _ _ _ c.into_iter-entry-iterator.result c.loop-entry.entry-iterator c.next.new.self _ (cc c.as_chunks.ensures.front) (cc c.zip-entry-items.ensures.second.0) c.loop-entry.yielded_by _ c.in-Some.is c.next.ensures.steps

pub loop-entry-init : goal.loop-entry-init
loop-entry-init c = roots-begin c.requires

pub loop-entry-preserved : goal.loop-entry-preserved
loop-entry-preserved c =
    rw length_push (roots-turn c.loop-entry.invariant (moved-as c.member_move.ensures c.from.ensures (taken (goal.at.loop-entry-preserved c).In-Some)) c.swap_cells.ensures.cells_after)

pub returns : goal.returns
returns c = roots-end c.loop-entry.invariant (pairs-end _ _ _ c.into_iter-entry-iterator.result c.loop-entry.entry-iterator c.next.new.self _ (cc c.as_chunks.ensures.front) (cc c.zip-entry-items.ensures.second.0) c.loop-entry.yielded_by c.in-None.is c.next.ensures.steps)
