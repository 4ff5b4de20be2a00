use Rattle.std.proofs.Common.{◌≡◌, rules, arith, ℕ}
use Rattle.question.proofs.Passing.{refused_as}
use Rattle.cycle.proofs.Pushing.{Begun, pushing-none, survivor-inside, ready-move, pushing-refused, note-asks, pushing-more, ready-again, pushing-done}
use Rattle.cycle.proofs.Cycling.{turned-push, turned-give, not-to-collect, only-once, push-last, ready-swept, push-swept, swept-refused, nursery-refused, two-left, begun, at_first, first-falls}
use Rattle.cycle.proofs.+alloc_or_collect_collect_and_push_allocation.Goals as goal
use Rattle.cycle.proofs.+alloc_or_collect_collect_and_push_allocation.Goals.{collect_and_push_allocation-In_ok-c}

pub alloc_or_collect-collect_and_push_allocation-requires : goal.alloc_or_collect-collect_and_push_allocation-requires
alloc_or_collect-collect_and_push_allocation-requires t c =
    (omega (arith, c.decreases), (c.requires, only-once c.requires c.must_collect.ensures c.if-must_collect.true))

pub alloc_or_collect-returns-then-must_collect : goal.alloc_or_collect-returns-then-must_collect
alloc_or_collect-returns-then-must_collect t c = turned-push c.requires c.must_collect.ensures _ c.if-must_collect.true c.collect_and_push_allocation.ensures

pub alloc_or_collect-give_in-requires-clause-image_value : goal.alloc_or_collect-give_in-requires-clause-image_value
alloc_or_collect-give_in-requires-clause-image_value t c = not-to-collect c.requires c.must_collect.ensures c.if-must_collect.false

pub alloc_or_collect-returns : goal.alloc_or_collect-returns
alloc_or_collect-returns t c = turned-give c.requires c.must_collect.ensures _ c.if-must_collect.false c.give_in.ensures

pub collect_and_push_allocation-returns-then-collected : goal.collect_and_push_allocation-returns-then-collected
collect_and_push_allocation-returns-then-collected t c = push-last c.requires.ready _ c.if-collected.true c.alloc_or_collect.ensures

pub collect_and_push_allocation-returns-in_err-visits : goal.collect_and_push_allocation-returns-in_err-visits
collect_and_push_allocation-returns-in_err-visits t c =
    rw (refused_as c.from_residual.result _ c.from_residual.ensures.1)
    (swept-refused c.requires.ready _ c.if-left-eq1.true c.if-collected.false (rw c.in_err-visits.was at c.sweep.ensures))

pub collect_and_push_allocation-alloc_or_collect-requires-then-left-eq1 : goal.collect_and_push_allocation-alloc_or_collect-requires-then-left-eq1
collect_and_push_allocation-alloc_or_collect-requires-then-left-eq1 t c =
    let swept = rw c.in_ok-visits.was at c.sweep.ensures in
    (omega (arith, first-falls _ _ _ c.if-collected.false c.decreases, c.if-left-eq1.true), ready-swept c.requires.ready _ c.if-left-eq1.true c.if-collected.false swept (search rules))

pub collect_and_push_allocation-returns-in_err-g : goal.collect_and_push_allocation-returns-in_err-g
collect_and_push_allocation-returns-in_err-g t c =
    let swept = rw c.in_ok-visits.was at c.sweep.ensures in
    rw (refused_as c.from_residual-in_err-g.result _ c.from_residual-in_err-g.ensures.1)
    (rw c.in_err-g.was at (push-swept c.requires.ready _ c.if-left-eq1.true c.if-collected.false swept (search rules) c.alloc_or_collect-then-left-eq1.ensures))

pub collect_and_push_allocation-returns-then-left-eq1 : goal.collect_and_push_allocation-returns-then-left-eq1
collect_and_push_allocation-returns-then-left-eq1 t c =
    let swept = rw c.in_ok-visits.was at c.sweep.ensures in
    rw c.also_swept.ensures
    (rw c.in_ok-g.was at (push-swept c.requires.ready _ c.if-left-eq1.true c.if-collected.false swept (search rules) c.alloc_or_collect-then-left-eq1.ensures))

-- the nursery is not collected

pub collect_and_push_allocation-returns-in_err-c : goal.collect_and_push_allocation-returns-in_err-c
collect_and_push_allocation-returns-in_err-c t c =
    rw (refused_as c.from_residual-in_err-c.result _ c.from_residual-in_err-c.ensures.1)
    (nursery-refused c.requires.ready _ (two-left c.requires.ready c.if-left-eq1.false) c.if-collected.false (rw c.in_err-c.was at c.collect_nursery.ensures))

-- it is, and its survivors are to be moved
collected : (t : ℕ) (c : collect_and_push_allocation-In_ok-c t) → Begun c.args.image.now c.args.roots.now c.args.scratch.now c.args.what c.in_ok-c.c c.collect_nursery.new.image c.collect_nursery.new.scratch
collected t c = begun c.requires.ready c.if-left-eq1.false c.if-collected.false _ c.in_ok-c.was c.collect_nursery.ensures (search rules)

pub collect_and_push_allocation-loop-i-init : goal.collect_and_push_allocation-loop-i-init
collect_and_push_allocation-loop-i-init t c =
    let e : c.default-tally.result ≡ record { collections = 0; visits = 0 } = search rules in
    rw e (pushing-none (collected t (goal.at.collect_and_push_allocation-loop-i-init t c).In_ok-c))

pub collect_and_push_allocation-survivor-base-requires : goal.collect_and_push_allocation-survivor-base-requires
collect_and_push_allocation-survivor-base-requires t c =
    let b = collected t (goal.at.collect_and_push_allocation-survivor-base-requires t c).In_ok-c in
    omega (arith, survivor-inside b c.loop-i.invariant c.loop-i-test.true)

pub collect_and_push_allocation-alloc_or_collect-requires-in-loop-i : goal.collect_and_push_allocation-alloc_or_collect-requires-in-loop-i
collect_and_push_allocation-alloc_or_collect-requires-in-loop-i t c =
    let b = collected t (goal.at.collect_and_push_allocation-alloc_or_collect-requires-in-loop-i t c).In_ok-c in
    (omega (arith, first-falls _ _ _ c.if-collected.false c.decreases, two-left c.requires.ready c.if-left-eq1.false), rw c.survivor-base.ensures (ready-move b c.loop-i.invariant c.loop-i-test.true))

pub collect_and_push_allocation-returns-in_err-g-2 : goal.collect_and_push_allocation-returns-in_err-g-2
collect_and_push_allocation-returns-in_err-g-2 t c =
    let b = collected t (goal.at.collect_and_push_allocation-returns-in_err-g-2 t c).In_ok-c in
    rw (refused_as c.from_residual-in_err-g-2.result _ c.from_residual-in_err-g-2.ensures.1)
    (rw c.in_err-g-2.was at (at_first c.requires.ready c.if-left-eq1.false c.if-collected.false _
    (pushing-refused b c.loop-i.invariant c.loop-i-test.true (rw c.survivor-base.ensures at c.alloc_or_collect-in-loop-i.ensures) (search rules) _ c.in_err-g-2.was)))

pub collect_and_push_allocation-invariant_of-note : goal.collect_and_push_allocation-invariant_of-note
collect_and_push_allocation-invariant_of-note t c =
    let b = collected t (goal.at.collect_and_push_allocation-invariant_of-note t c).In_ok-c in
    let n = note-asks b c.loop-i.invariant c.loop-i-test.true (rw c.survivor-base.ensures at c.alloc_or_collect-in-loop-i.ensures) (search rules) _ c.in_ok-g-2.was in
    record { formed = n.0 }

pub collect_and_push_allocation-note-tally-requires : goal.collect_and_push_allocation-note-tally-requires
collect_and_push_allocation-note-tally-requires t c =
    let b = collected t (goal.at.collect_and_push_allocation-note-tally-requires t c).In_ok-c in
    let n = note-asks b c.loop-i.invariant c.loop-i-test.true (rw c.survivor-base.ensures at c.alloc_or_collect-in-loop-i.ensures) (search rules) _ c.in_ok-g-2.was in
    record { roots_in_bounds = n.1; i_in_bounds = n.2; sums_bound = (n.3, n.4) }

pub collect_and_push_allocation-loop-i-preserved : goal.collect_and_push_allocation-loop-i-preserved
collect_and_push_allocation-loop-i-preserved t c =
    let b = collected t (goal.at.collect_and_push_allocation-loop-i-preserved t c).In_ok-c in
    pushing-more b c.loop-i.invariant c.loop-i-test.true (rw c.survivor-base.ensures at c.alloc_or_collect-in-loop-i.ensures) (search rules) _ c.in_ok-g-2.was c.note-tally.ensures.scratch_after _ c.note-tally.ensures.sums

pub collect_and_push_allocation-alloc_or_collect-requires-2 : goal.collect_and_push_allocation-alloc_or_collect-requires-2
collect_and_push_allocation-alloc_or_collect-requires-2 t c =
    let b = collected t (goal.at.collect_and_push_allocation-alloc_or_collect-requires-2 t c).In_ok-c in
    (omega (arith, first-falls _ _ _ c.if-collected.false c.decreases, two-left c.requires.ready c.if-left-eq1.false), ready-again b c.loop-i.invariant c.loop-i-test.false)

pub collect_and_push_allocation-returns-in_err-g-3 : goal.collect_and_push_allocation-returns-in_err-g-3
collect_and_push_allocation-returns-in_err-g-3 t c =
    let b = collected t (goal.at.collect_and_push_allocation-returns-in_err-g-3 t c).In_ok-c in
    rw (refused_as c.from_residual-in_err-g-3.result _ c.from_residual-in_err-g-3.ensures.1)
    (rw c.in_err-g-3.was at (at_first c.requires.ready c.if-left-eq1.false c.if-collected.false _ (pushing-done b c.loop-i.invariant c.loop-i-test.false c.alloc_or_collect-2.ensures)))

pub collect_and_push_allocation-returns : goal.collect_and_push_allocation-returns
collect_and_push_allocation-returns t c =
    let b = collected t (goal.at.collect_and_push_allocation-returns t c).In_ok-c in
    rw c.finished.ensures
    (rw c.in_ok-g-3.was at (at_first c.requires.ready c.if-left-eq1.false c.if-collected.false _ (pushing-done b c.loop-i.invariant c.loop-i-test.false c.alloc_or_collect-2.ensures)))
