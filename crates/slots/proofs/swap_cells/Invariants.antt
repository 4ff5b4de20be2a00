use Rattle.slots.specs.Slots.{move_of}
use Rattle.slots.proofs.Swaps.{Swapping}
use Rattle.slots.proofs.swap_cells.Given as goal

abbrev pub invariant-loop-i : goal.invariant-loop-i
invariant-loop-i l = Swapping (move_of l.moved) l.initial.cells l.cells l.hits l.i
