use borrow.Author.Rules.{rules}
use mathlib.Core.Path.{sym, ◌∙◌}
use Rattle.barrier.proofs.Steps.{steps-out}
use Rattle.barrier.proofs.Turns.{triples-valid, triples-cells, begin, ended, turn-skip, turn-counted, turn-refused}
use Rattle.barrier.proofs.cells.counted_out.Goals as goal
use Rattle.barrier.proofs.cells.counted_out.Goals.{then-crosses+in-Ok, else-crosses}

pub loop-cell-init : goal.loop-cell-init
loop-cell-init c = rw c.as_chunks.ensures.front (begin _ _ _ (triples-valid c.args.cells.now c.requires))

pub returns-in_default : goal.returns-in_default
returns-in_default c =
    let cells = rw (← c.as_chunks.ensures.front) at (triples-cells c.args.cells.now) in
    rw c.in_default.is (rw cells at (turn-refused _ _ _ _ (rw c.in_default.is at c.loop-cell.invariant)))

pub loop-cell-preserved : goal.loop-cell-preserved
loop-cell-preserved c =
    let h = c.loop-cell-test.true in
    elim c.if-crosses.branch [
      | then-crosses+in-Ok w ↦ rw w.counted-is (turn-counted _ _ _ h _ (rw w.in-Ok.is at c.loop-cell.invariant) w.value.result (rw w.from.ensures at w.value.ensures) (search rules))
      | else-crosses w ↦ rw w.counted-is (turn-skip _ _ _ h (steps-out _) (sym c.crosses.ensures ∙ w.if-crosses.false) _ c.loop-cell.invariant)
    ]

pub returns : goal.returns
returns c =
    let cells = rw (← c.as_chunks.ensures.front) at (triples-cells c.args.cells.now) in
    rw cells at (ended _ _ _ _ c.loop-cell.invariant c.loop-cell-test.false)
