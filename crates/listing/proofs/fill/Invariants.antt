use mathlib.Core.Path.{◌≡◌}
use Prim.Native.Nat.{◌-◌}
use lib.ListN.{length}
use Rattle.listing.proofs.Filling.{Filling}
use Rattle.listing.proofs.fill.Given as goal

abbrev pub invariant-loop-run : goal.invariant-loop-run
invariant-loop-run l =
    Filling l.file l.initial.buffer l.initial.run l.buffer l.run l.out l.used
    × (length l.buffer ≡ length l.initial.buffer)
    × (length l.scratch ≡ length l.initial.scratch)
    × (length l.out ≡ length l.initial.out)

abbrev pub decreases-loop-run : goal.decreases-loop-run
decreases-loop-run l = length l.file - l.run.at
