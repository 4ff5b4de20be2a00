use borrow.Author.Rules.{rules}
use mathlib.Core.Path.{◌≡◌}
use Prim.Native.Nat.{ℕ}
use native.Mathlib.Omega.{arith}
use lib.ListN.{length, length-replicate}
use Rattle.model.specs.Barrier.{masks}
use Rattle.barrier.proofs.Places.{found_none, found-more, found-same, found_all}
use Rattle.barrier.proofs.WriteBarrier.masks.Goals as goal
use Rattle.barrier.proofs.WriteBarrier.masks.Goals.{Start, then-n-gt0, else-n-gt0}

counts-long : (s : Start) → length s.args.self.now.counts ≡ 256
counts-long s = search rules

pub loop-place-init : goal.loop-place-init
loop-place-init c = found_none _ _ (length-replicate {A = ℕ} 256 0)

pub loop-place-preserved : goal.loop-place-preserved
loop-place-preserved c =
    let l = c.loop-place.invariant in
    let n = counts-long (goal.at.loop-place-preserved c).Start in
    let h = c.loop-place-test.true in
    elim c.if-n-gt0.branch [
      | then-n-gt0 w ↦ rw (w.places-is, w.count-is) (found-more l n h w.if-n-gt0.true)
      | else-n-gt0 w ↦ rw (w.places-is, w.count-is) (found-same l n h w.if-n-gt0.false)
    ]

pub returns-after-loop-place : goal.returns-after-loop-place
unfolding masks
returns-after-loop-place c =
    let l = c.loop-place.invariant in
    (rw c.if-self.true (found_all l (counts-long (goal.at.returns-after-loop-place c).Start) c.loop-place-test.false), omega (arith, l.within, l.few))

pub returns-else-self : goal.returns-else-self
unfolding masks
returns-else-self c = (rw c.if-self.false, search rules)
