use mathlib.Core.Path.{◌≡◌}
use Prim.Native.Nat.{◌-◌}
use Rattle.barrier.specs.Counts.{barrier_of}
use Rattle.slots.specs.Slots.{move_of}
use Rattle.changes.specs.Changes.{times, count_change}
use Rattle.changes.proofs.count_both.Given as goal

-- as many as are left lead to what all come to
abbrev pub invariant-loop : goal.invariant-loop
invariant-loop l =
    times (l.k - l.counter) (count_change l.own (move_of l.moved)) (barrier_of l.barrier) ≡ times l.k (count_change l.own (move_of l.moved)) (barrier_of l.initial.barrier)
