use lib.ListN.{length}
use Rattle.words.proofs.Moves.{Pasting}
use Rattle.words.proofs.copy_words.Given as goal

abbrev pub invariant-loop-i : goal.invariant-loop-i
invariant-loop-i l = Pasting l.initial.w l.at l.src (length l.src) l.w l.i
