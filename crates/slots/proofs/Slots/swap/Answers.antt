use borrow.Author.Rules.{rules}
use Rattle.slots.proofs.Swapped.{swap-made}
use Rattle.slots.proofs.Slots.swap.Goals as goal

pub returns-clause-changed : goal.returns-clause-changed
returns-clause-changed c = record {
  changed = swap-made c.requires _ (rw c.lens.ensures at c.sum.ensures) _ c.swap_cells.ensures.cells_after;
  same = search rules;
}
