use Rattle.std.proofs.Common.{◌≡◌, ℕ, ◌+◌, ◌*◌, ◌-◌, ◌/◌, ◌≤◌, List, length, take, drop, ◌∙◌, arith, length-drop}
use Rattle.std.specs.Simd.{first_chunks}
use Rattle.trace.proofs.Chunks.{cut-chunks}
use Rattle.trace.proofs.Places.{own-flat, piece-next, piece-none}
use Rattle.trace.proofs.Entering.{enter-begin, enter-room, enter-turn, enter-done}
use Rattle.trace.proofs.Generation.scan.Goals as goal

part-chunks : (f n : ℕ) (w : List ℕ) → 3 * (f + n) ≤ length w
    → first_chunks 3 (length (take (3 * (f + n) - 3 * f) (drop (3 * f) w)) / 3) (take (3 * (f + n) - 3 * f) (drop (3 * f) w)) ≡ first_chunks 3 n (drop (3 * f) w)
part-chunks f n w h = let e : 3 * (f + n) - 3 * f ≡ 3 * n = omega arith in rw e (cut-chunks n (drop (3 * f) w) (omega (arith, length-drop (3 * f) w)))

pub loop-cell-init : goal.loop-cell-init
loop-cell-init c = enter-begin (own-flat _ _ _ (c.as_chunks.ensures.front ∙ part-chunks _ _ _ c.requires.len_in_bounds)) c.requires.room

pub enter_own-requires : goal.enter_own-requires
enter_own-requires c = enter-room c.loop-cell.invariant _ _ (piece-next _ _ _ _ c.loop-cell-test.true)

pub loop-cell-preserved : goal.loop-cell-preserved
loop-cell-preserved c = enter-turn c.loop-cell.invariant _ _ (piece-next _ _ _ _ c.loop-cell-test.true) c.enter_own.ensures

pub returns : goal.returns
returns c = enter-done c.loop-cell.invariant (piece-none _ _ _ c.loop-cell-test.false)
