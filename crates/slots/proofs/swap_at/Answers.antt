use Rattle.slots.proofs.Swaps.{other-kind, other-words, swap-hit}
use Rattle.slots.proofs.swap_at.Goals as goal
use Rattle.slots.proofs.swap_at.Goals.{then-cells-i-via-then-cells-i, then-cells-i-via-else-cells-i+then-ne}

pub returns-then-cells-i : goal.returns-then-cells-i
returns-then-cells-i c = elim c.then-cells-i.branch [
  | then-cells-i-via-then-cells-i w ↦ let all = other-kind _ _ _ c.requires.1 c.requires.0 c.from-was.result c.was.ensures c.from-was.ensures w.if-cells-i.true in record { cells_after = all.0; value = all.1 }
  | then-cells-i-via-else-cells-i+then-ne w ↦ let all = other-words _ _ _ c.requires.1 c.requires.0 c.from-was.result c.was.ensures c.from-was.ensures w.at.result w.at.ensures w.ne.ensures w.if-ne.true in record { cells_after = all.0; value = all.1 }
]

pub returns : goal.returns
returns c =
    let all =
    swap-hit _ _ _ c.requires.1 c.requires.0 c.from-was.result c.was.ensures c.from-was.ensures c.at.result c.at.ensures c.ne.ensures c.if-ne.false c.from.result c.becomes.ensures c.from.ensures _ c.into-words.ensures c.copy_words.ensures in
    record { cells_after = all.0; value = all.1 }
