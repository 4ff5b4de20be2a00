use lib.ListN.{drop}
use Rattle.words.proofs.Moves.{Pasting}
use Rattle.words.proofs.move_left.Given as goal

abbrev pub invariant-loop-i : goal.invariant-loop-i
invariant-loop-i l = Pasting l.initial.w l.dst (drop l.src l.initial.w) l.n l.w l.i
