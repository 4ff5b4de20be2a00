use Rattle.registers.proofs.Roots.{Loaded}
use Rattle.registers.proofs.Registers.from_words.Given as goal

abbrev pub invariant-loop-i : goal.invariant-loop-i
invariant-loop-i l = Loaded l.w (record { cells = l.cell-items }) l.i
