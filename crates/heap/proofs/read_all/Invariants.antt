use mathlib.Core.Path.{◌≡◌}
use Prim.Native.Nat.{◌+◌, ◌-◌, ◌≤◌}
use lib.ListN.{length}
use Rattle.heap.proofs.Reading.{onward}
use Rattle.heap.proofs.read_all.Given as goal

abbrev pub invariant-loop-input : goal.invariant-loop-input
invariant-loop-input l = (length l.file ≡ length l.initial.file) × (l.input.len ≤ length l.file)

abbrev pub decreases-loop-input : goal.decreases-loop-input
decreases-loop-input l = length l.file - l.input.len + onward l.input.came
