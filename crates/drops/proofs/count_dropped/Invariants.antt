use Rattle.barrier.specs.Counts.{barrier_of}
use Rattle.trace.specs.Words.{listed}
use Rattle.slots.specs.Slots.{slots_of}
use Rattle.drops.proofs.Drops.{Left}
use Rattle.drops.proofs.count_dropped.Given as goal

abbrev pub invariant-loop-b : goal.invariant-loop-b
invariant-loop-b l = Left (listed l.members) l.lens l.cells (slots_of l.lens l.cells) (barrier_of l.initial.barrier) l.b l.at (barrier_of l.barrier)
