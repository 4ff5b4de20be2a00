use Rattle.std.proofs.Common.{◌+◌, ◌-◌, ◌*◌}
use Rattle.cycle.proofs.Pushing.{Pushing}
use Rattle.cycle.proofs.Cycling.{not_yet}
use Rattle.cycle.proofs.+alloc_or_collect_collect_and_push_allocation.Given as goal

-- an allocation's collection is one step lower than the allocation that it begins with
abbrev pub decreases-alloc_or_collect : goal.decreases-alloc_or_collect
decreases-alloc_or_collect l = 4 * l.left + not_yet l.collected + 1

abbrev pub decreases-collect_and_push_allocation : goal.decreases-collect_and_push_allocation
decreases-collect_and_push_allocation l = 4 * l.left + not_yet l.collected

abbrev pub invariant-collect_and_push_allocation-loop-i : goal.invariant-collect_and_push_allocation-loop-i
invariant-collect_and_push_allocation-loop-i l =
    Pushing l.fn.image l.roots l.masks l.fn.scratch l.c.survivors l.initial.image l.initial.scratch l.image l.scratch l.tally l.i

abbrev pub decreases-collect_and_push_allocation-loop-i : goal.decreases-collect_and_push_allocation-loop-i
decreases-collect_and_push_allocation-loop-i l = l.c.survivors - l.i
