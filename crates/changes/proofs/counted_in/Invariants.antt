use mathlib.Core.Path.{◌≡◌}
use Prim.Native.Nat.{◌-◌}
use Rattle.model.specs.Res.{◌>>=◌}
use Rattle.question.specs.Question.{answer}
use Rattle.value.specs.Value.{value_cell}
use Rattle.model.specs.Barrier.{count_in}
use Rattle.barrier.specs.Counts.{barrier_of}
use Rattle.changes.specs.Changes.{times}
use Rattle.changes.proofs.counted_in.Given as goal

-- as many as are left lead to what all come to
abbrev pub invariant-loop : goal.invariant-loop
invariant-loop l =
    (answer barrier_of l.counted >>= times (l.k - l.counter) (count_in l.own (value_cell l.v))) ≡ (answer barrier_of l.initial.counted >>= times l.k (count_in l.own (value_cell l.v)))
