-- The index of an access in heap 0: the sum of two words read as i64, by the model's sum of both, moved up by 2^63.
use mathlib.Core.Path.{◌≡◌, refl, ap}
use mathlib.Core.Logic.{◌⊎◌, inl, inr}
use Prim.Native.Nat.{ℕ, suc, ◌+◌, ◌-◌, ◌%◌, ◌^◌, ◌≤◌, ◌<◌}
use native.Mathlib.Decide.{dec_lt}
use native.Mathlib.Omega.{arith}
use lib.IntN.{ℤ, pos, negsuc, nat_abs, ◌+ℤ◌, sub_ℕ}
use mir.Syntax.{w64}
use mir.Val.{SFits, to_z}
use mir.ValLaws.{to_z_pos, to_z-neg}
use borrow.Author.Tests.{lt-ltb, le-ltb, le-leb, lt-leb}
use Rattle.model.specs.Res.{ok, refuse}
use Rattle.model.specs.Records.{biased, sum_fits}
use Rattle.model.specs.Heap.{Heap}
use Rattle.model.specs.Collector.{young_at}
use Rattle.std.specs.Int.{FitsUnsignedBits}
use Rattle.trace.specs.Words.{pointer}

-- s is x, moved up by k
abbrev MovedUp : ℕ → ℤ → ℕ → Type 0
MovedUp k (pos n) s = s ≡ k + n
MovedUp k (negsuc n) s = s + suc n ≡ k

word-up : (w : ℕ) → w < 2 ^ 64 → MovedUp (2 ^ 63) (to_z w64 w) (biased w)
unfolding biased
word-up w l = go (dec_lt w (2 ^ 63))
  where
    go : Dec (w < 2 ^ 63) → MovedUp (2 ^ 63) (to_z w64 w) ((w + 0x8000_0000_0000_0000) % 0x1_0000_0000_0000_0000)
    go (yes h) = rw (to_z_pos w64 w h) (omega arith)
    go (no h) =
        let k = 2 ^ 64 - 1 - w in
        let e : 2 ^ 64 - suc k ≡ w = omega arith in
        let z : to_z w64 w ≡ negsuc k = rw e at (to_z-neg w64 k (omega arith)) in
        rw z (omega arith)

-- with m and suc n on two sides of 0
sub-up : (k m n s : ℕ) → s + n ≡ k + m → 0 < n → MovedUp k (sub_ℕ m n) s
sub-up k m n s e p = go (dec_lt m n)
  where
    go : Dec (m < n) → MovedUp k (sub_ℕ m n) s
    go (yes h) = rw (lt-ltb m n h) (omega arith)
    go (no h) = rw (le-ltb m n (omega arith)) (omega arith)

sum-up : (x y : ℤ) (s t : ℕ) → MovedUp (2 ^ 63) x s → MovedUp (2 ^ 63) y t → MovedUp (2 ^ 64) (x +ℤ y) (s + t)
sum-up (pos m) (pos n) s t e f = omega arith
sum-up (pos m) (negsuc n) s t e f = sub-up (2 ^ 64) m (suc n) (s + t) (omega arith) (omega arith)
sum-up (negsuc m) (pos n) s t e f = sub-up (2 ^ 64) n (suc m) (s + t) (omega arith) (omega arith)
sum-up (negsuc m) (negsuc n) s t e f = omega arith

-- where the sum s of both words, moved up, lies

within : (z : ℤ) (s : ℕ) → MovedUp (2 ^ 64) z s → SFits w64 z → (0x8000_0000_0000_0000 ≤ s) × (s < 0x1_8000_0000_0000_0000)
within (pos n) s e f = (omega arith, omega (arith, f.sfits))
within (negsuc n) s e f = (omega (arith, f.sfits), omega arith)

outside : (z : ℤ) (s : ℕ) → MovedUp (2 ^ 64) z s → (SFits w64 z → ⊥) → (0x1_8000_0000_0000_0000 ≤ s) ⊎ (s < 0x8000_0000_0000_0000)
outside (pos n) s e f = go (dec_lt n (2 ^ 63))
  where
    go : Dec (n < 2 ^ 63) → (0x1_8000_0000_0000_0000 ≤ s) ⊎ (s < 0x8000_0000_0000_0000)
    go (yes h) = absurd (f (record { sfits = h }))
    go (no h) = inl (omega arith)
outside (negsuc n) s e f = go (dec_lt n (2 ^ 63))
  where
    go : Dec (n < 2 ^ 63) → (0x1_8000_0000_0000_0000 ≤ s) ⊎ (s < 0x8000_0000_0000_0000)
    go (yes h) = absurd (f (record { sfits = h }))
    go (no h) = inr (omega arith)

module _ (h : Heap) (b o : ℕ) (wb : b < 2 ^ 64) (wo : o < 2 ^ 64) where
  abbrev sum : ℤ
  sum = to_z w64 b +ℤ to_z w64 o

  abbrev s : ℕ
  s = biased b + biased o

  up : MovedUp (2 ^ 64) sum s
  up = sum-up (to_z w64 b) (to_z w64 o) (biased b) (biased o) (word-up b wb) (word-up o wo)

  pub no-sum : (SFits w64 sum → ⊥) → refuse 9 ≡ young_at h (pointer 0 b o)
  unfolding young_at sum_fits
  no-sum f = go (outside sum s up f)
    where
      go : (0x1_8000_0000_0000_0000 ≤ s) ⊎ (s < 0x8000_0000_0000_0000) → refuse 9 ≡ young_at h (pointer 0 b o)
      go (inl l) = rw (le-leb 0x8000_0000_0000_0000 s (omega arith), le-ltb s 0x1_8000_0000_0000_0000 l)
      go (inr l) = rw (lt-leb 0x8000_0000_0000_0000 s l)

  module _ (z : ℤ) (e : sum ≡ z) (f : SFits w64 sum) where
    up-z : MovedUp (2 ^ 64) z s
    up-z = rw e at up

    low : 0x8000_0000_0000_0000 ≤ s
    low = (within sum s up f).0

    high : s < 0x1_8000_0000_0000_0000
    high = (within sum s up f).1

    -- below 0
    pub before : (FitsUnsignedBits 64 z → ⊥) → refuse 8 ≡ young_at h (pointer 0 b o)
    unfolding young_at sum_fits
    before k = rw (le-leb 0x8000_0000_0000_0000 s low, lt-ltb s 0x1_8000_0000_0000_0000 high, lt-leb 0x1_0000_0000_0000_0000 s (go z refl up-z (rw e at f)))
      where
        go : (y : ℤ) → z ≡ y → MovedUp (2 ^ 64) y s → SFits w64 y → s < 0x1_0000_0000_0000_0000
        go (pos n) is u g = absurd (k (rw is (omega (arith, g.sfits))))
        go (negsuc n) is u g = omega arith

  module _ (i n : ℕ) (e : sum ≡ pos i) (f : SFits w64 sum) (en : h.size.n ≡ n) where
    at : s ≡ 0x1_0000_0000_0000_0000 + i
    at = up-z (pos i) e f

    pub beyond : n ≤ i → refuse 8 ≡ young_at h (pointer 0 b o)
    unfolding young_at sum_fits
    beyond l = rw (le-leb 0x8000_0000_0000_0000 s (omega (arith, at)), lt-ltb s 0x1_8000_0000_0000_0000 (high (pos i) e f), le-leb 0x1_0000_0000_0000_0000 s (omega (arith, at)), le-ltb s (0x1_0000_0000_0000_0000 + h.size.n) (omega (arith, at)))

    pub inside : i < n → ok i ≡ young_at h (pointer 0 b o)
    unfolding young_at sum_fits
    inside l =
        let m : s - 0x1_0000_0000_0000_0000 ≡ i = omega (arith, at) in
        rw (le-leb 0x8000_0000_0000_0000 s (omega (arith, at)), lt-ltb s 0x1_8000_0000_0000_0000 (high (pos i) e f), le-leb 0x1_0000_0000_0000_0000 s (omega (arith, at)), lt-ltb s (0x1_0000_0000_0000_0000 + h.size.n) (omega (arith, at)), m)

-- a number from 0 on, by its size
pub sized : (z : ℤ) (i : ℕ) → FitsUnsignedBits 64 z → nat_abs z ≡ i → z ≡ pos i
sized (pos n) i f e = ap pos e
sized (negsuc n) i f e = absurd f
