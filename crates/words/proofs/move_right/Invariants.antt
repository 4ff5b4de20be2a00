use Rattle.words.proofs.Moves.{Shifting}
use Rattle.words.proofs.move_right.Given as goal

abbrev pub invariant-loop-i : goal.invariant-loop-i
invariant-loop-i l = Shifting l.initial.w l.dst l.src l.n l.w l.i
