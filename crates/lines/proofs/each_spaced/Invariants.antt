use Rattle.lines.proofs.Loops.{Spacing}
use Rattle.lines.proofs.each_spaced.Given as goal

abbrev pub invariant-loop-x : goal.invariant-loop-x
invariant-loop-x l = Spacing l.n l.initial.t l.t l.x-index
