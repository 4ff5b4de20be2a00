-- The text of an i64, by its sign and its distance from 0.
use mathlib.Core.Path.{◌≡◌}
use mathlib.Core.Bool.{cond}
use mathlib.Core.List.{[], ◌∷◌, ◌++◌}
use Prim.Native.Nat.{suc, ◌-◌, ◌^◌}
use native.Mathlib.Omega.{arith}
use lib.IntN.{ℤ, pos, negsuc, nat_abs}
use lib.Signed.{lt_z}
use mir.Syntax.{w64}
use mir.Val.{SFits, of_z}
use borrow.Author.Tests.{lt-ltb, le-ltb}
use Rattle.model.specs.Listing.{decimal, signed}

pub signed-text : (x : ℤ) → SFits w64 x → signed (of_z w64 x) ≡ cond (lt_z x (pos 0)) (0x2D ∷ []) [] ++ decimal (nat_abs x)
unfolding signed
signed-text (pos n) f = rw (lt-ltb n (2 ^ 63) f.sfits, le-ltb n 0 (omega arith))
signed-text (negsuc n) f =
    let e : 2 ^ 64 - (2 ^ 64 - suc n) ≡ suc n = omega (arith, f.sfits) in
    rw (le-ltb (2 ^ 64 - suc n) (2 ^ 63) (omega (arith, f.sfits)), e)
