use mathlib.Core.Path.{◌≡◌, refl, sym, ◌∙◌}
use Prim.Native.Nat.{ℕ, zero, suc, ◌+◌, ◌-◌, ◌*◌, ◌/◌, ◌%◌, ◌<◌}
use native.Mathlib.Decide.{dec_lt}
use native.Mathlib.Nat.{mod-lt}
use native.Mathlib.Omega.{arith}
use lib.Dec.{ltb}
use mir.Val.{bool_byte}
use borrow.Author.Tests.{lt-ltb, le-ltb}
use Rattle.model.specs.Figure.{rounded}
use Rattle.theorems.proofs.Rounding.{rounded-down, rounded-up, rounded-tie}
use Rattle.figure.proofs.round.Goals as goal

-- the last digit added to the rest decides a tie, and nothing else
module _ (a c : ℕ) (positive : 0 < c) where
  digit : a / c % 2 < 2
  digit = mod-lt (a / c) (omega arith)

  down : 2 * (a % c) < c → a / c + bool_byte (ltb (c - a % c) (a % c + a / c % 2)) ≡ rounded a c
  down h = rw (le-ltb (c - a % c) (a % c + a / c % 2) (omega (arith, digit)), rounded-down a c h) (omega arith)

  up : c < 2 * (a % c) → a / c + bool_byte (ltb (c - a % c) (a % c + a / c % 2)) ≡ rounded a c
  up h = rw (lt-ltb (c - a % c) (a % c + a / c % 2) (omega (arith, mod-lt a positive)), rounded-up a c h) refl

  tie : 2 * (a % c) ≡ c → a / c + bool_byte (ltb (c - a % c) (a % c + a / c % 2)) ≡ rounded a c
  tie h = go (a / c % 2) digit ∙ sym (rounded-tie a c h)
    where
      go : (n : ℕ) → n < 2 → a / c + bool_byte (ltb (c - a % c) (a % c + n)) ≡ a / c + n
      go zero k = rw (le-ltb (c - a % c) (a % c + 0) (omega arith)) refl
      go (suc zero) k = rw (lt-ltb (c - a % c) (a % c + 1) (omega arith)) refl
      go (suc (suc n)) k = absurd (omega arith)

  by_digit : a / c + bool_byte (ltb (c - a % c) (a % c + a / c % 2)) ≡ rounded a c
  by_digit = go (dec_lt (2 * (a % c)) c) (dec_lt c (2 * (a % c)))
    where
      go : Dec (2 * (a % c) < c) → Dec (c < 2 * (a % c)) → a / c + bool_byte (ltb (c - a % c) (a % c + a / c % 2)) ≡ rounded a c
      go (yes l) u = down l
      go (no l) (yes u) = up u
      go (no l) (no u) = tie (omega arith)

pub returns : goal.returns
returns c = rw c.from.ensures (by_digit c.args.a c.args.c c.requires)
