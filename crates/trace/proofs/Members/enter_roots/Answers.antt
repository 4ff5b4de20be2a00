use Rattle.trace.proofs.Places.{roots-flat, piece-next, piece-none}
use Rattle.trace.proofs.Entering.{enter-begin, enter-room, enter-turn, enter-done}
use Rattle.trace.proofs.Members.enter_roots.Goals as goal

pub loop-cell-init : goal.loop-cell-init
loop-cell-init c = enter-begin (roots-flat _ c.as_chunks.ensures.front) c.requires

pub enter_root-requires : goal.enter_root-requires
enter_root-requires c = enter-room c.loop-cell.invariant _ _ (piece-next _ _ _ _ c.loop-cell-test.true)

pub loop-cell-preserved : goal.loop-cell-preserved
loop-cell-preserved c = enter-turn c.loop-cell.invariant _ _ (piece-next _ _ _ _ c.loop-cell-test.true) c.enter_root.ensures

pub returns : goal.returns
returns c = enter-done c.loop-cell.invariant (piece-none _ _ _ c.loop-cell-test.false)
