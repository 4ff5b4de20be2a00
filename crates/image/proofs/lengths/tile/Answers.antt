use native.Mathlib.Omega.{arith}
use mathlib.Core.Path.{◌≡◌}
use mathlib.Core.Logic.{◌⊎◌, inl, inr}
use mathlib.Core.Bool.{◌&&◌, false, and-false}
use Prim.Native.Nat.{ℕ, ◌<◌, ◌≤◌}
use lib.Dec.{ltb, leb}
use borrow.Author.Tests.{lt-ltb, le-ltb, le-leb, lt-leb}
use Rattle.image.proofs.Fills.{inside, behind, here}
use Rattle.image.proofs.lengths.tile.Goals as goal

-- an allocation of x places does not fit in
no-fit : (left x : ℕ) → (0 < x × left < x) ⊎ x ≤ 0 → (ltb 0 x && leb x left) ≡ false
no-fit left x (inl w) = rw (lt-leb x left w.1, and-false)
no-fit left x (inr w) = rw (le-ltb 0 x w)

pub returns-then-skip-gt0 : goal.returns-then-skip-gt0
returns-then-skip-gt0 c = rw (inside _ _ _ c.if-skip-gt0.true) c.then_some.ensures

pub returns-then-left-eq0 : goal.returns-then-left-eq0
returns-then-left-eq0 c =
    let a = c.args in
    rw (behind a.left a.skip a.x (omega arith) (omega arith)) c.then_some-then-left-eq0.ensures

pub returns-then-x-left : goal.returns-then-x-left
returns-then-x-left c =
    let a = c.args in
    rw (here a.left a.skip a.x (omega arith) c.if-left-eq0.false, lt-ltb _ _ c.if-x-gt0.true, le-leb _ _ c.if-x-left.true)

pub returns-else-x-gt0 : goal.returns-else-x-gt0
returns-else-x-gt0 c =
    let a = c.args in
    rw (here a.left a.skip a.x (omega arith) c.if-left-eq0.false, no-fit a.left a.x c.else-x-gt0.either)
