use borrow.Author.Rules.{rules}
use Rattle.slots.proofs.Swaps.{swap-begin, swap-found, swap-missed, swap-done}
use Rattle.slots.proofs.swap_cells.Goals as goal
use Rattle.slots.proofs.swap_cells.Goals.{then-swap_at, else-swap_at}

pub loop-i-init : goal.loop-i-init
loop-i-init c = search (swap-begin, rules)

pub loop-i-preserved : goal.loop-i-preserved
loop-i-preserved c = elim c.if-swap_at.branch [ then-swap_at w ↦ search (swap-found, rules) | else-swap_at w ↦ search (swap-missed, rules) ]

pub returns : goal.returns
returns c = let all = swap-done c.loop-i.invariant (search rules) in record { cells_after = all.0; value = all.1 }
