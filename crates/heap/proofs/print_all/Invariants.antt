use mathlib.Core.Path.{◌≡◌}
use Prim.Native.Nat.{◌-◌}
use lib.ListN.{length}
use Rattle.heap.proofs.Printing.{Printing}
use Rattle.heap.proofs.print_all.Given as goal

abbrev pub invariant-loop-run : goal.invariant-loop-run
invariant-loop-run l =
    Printing l.file l.image l.run l.len
    × (length l.image ≡ length l.initial.image)
    × (length l.scratch ≡ length l.initial.scratch)
    × (length l.out ≡ length l.initial.out)

abbrev pub decreases-loop-run : goal.decreases-loop-run
decreases-loop-run l = length l.file - l.run.at
