-- A fraction is rounded to the nearest whole number, and of two that are equally near to the even one. One number is that.
use mathlib.Core.Path.{◌≡◌, sym, subst, ◌∙◌}
use mathlib.Core.Bool.{not}
use Prim.Native.Nat.{ℕ, zero, suc, ◌+◌, ◌*◌, ◌/◌, ◌%◌, ◌≤◌, ◌<◌, compare, Ordering}
use native.Mathlib.Decide.{dec_lt, ℕ_discrete}
use native.Mathlib.Nat.{le_refl, le_antisymm, add-zero, mul-le-mul_right, mod-lt, div-add-mod'}
use native.Mathlib.Omega.{arith}
use lib.Dec.{T, is_le, compare_is_eq, eqb, leb→le, nleb→lt, eqb→eq, eqb_refl}
use lib.Ieee.{nearest}
use lib.Ieee.Nearest.{closest, closest_same}
use borrow.Author.Tests.{lt-ltb, le-ltb}
use Rattle.model.specs.Figure.{rounded}
use Rattle.theorems.specs.Rounding.{apart, Rounds}

-- ---- its three cases

pub rounded-down : (a c : ℕ) → 2 * (a % c) < c → rounded a c ≡ a / c
unfolding rounded
rounded-down a c h = rw (lt-ltb (2 * (a % c)) c h)

pub rounded-up : (a c : ℕ) → c < 2 * (a % c) → rounded a c ≡ a / c + 1
unfolding rounded
rounded-up a c h = rw (le-ltb (2 * (a % c)) c (omega arith), lt-ltb c (2 * (a % c)) h)

pub rounded-tie : (a c : ℕ) → 2 * (a % c) ≡ c → rounded a c ≡ a / c + a / c % 2
unfolding rounded
rounded-tie a c h = rw (le-ltb (2 * (a % c)) c (omega arith), le-ltb c (2 * (a % c)) (omega arith))

-- the same rule by which the library rounds every Float
pub as-ieee : (a c : ℕ) → rounded a c ≡ closest a c
as-ieee a c = go (compare x c) (leb→le x c) (nleb→lt x c) (eqb→eq x c) (λ e. subst (λ y. T (eqb x y)) e (eqb_refl x))
  where
    x : ℕ
    x = a % c * 2

    go : (o : Ordering) → (T (is_le o) → x ≤ c) → (T (not (is_le o)) → c < x) → (T (compare_is_eq o) → x ≡ c) → (x ≡ c → T (compare_is_eq o)) → rounded a c ≡ nearest (a / c) o
    go Ordering.lt le lt eq same = let other : ¬ (x ≡ c) = same in rounded-down a c (omega (arith, le tt))
    go Ordering.eq le lt eq same = rounded-tie a c (omega (arith, eq tt))
    go Ordering.gt le lt eq same = rw (rounded-up a c (omega (arith, lt tt))) (omega arith)

-- how the fraction is written does not matter
pub rounded-same : (n d a c : ℕ) → 0 < d → 0 < c → n * c ≡ a * d → rounded n d ≡ rounded a c
rounded-same n d a c p q e = as-ieee n d ∙ closest_same n d a c p q e ∙ sym (as-ieee a c)

-- ---- what is at most a half away, and at a tie even, is what a fraction rounds to

-- any other number is a half away at least
others-far : (a c k j : ℕ) → 2 * apart (k * c) a ≤ c → ¬ (j ≡ k) → c ≤ 2 * apart (j * c) a
others-far a c k j h n = go (dec_lt j k)
  where
    go : Dec (j < k) → c ≤ 2 * apart (j * c) a
    go (yes l) = omega (arith, mul-le-mul_right c l)
    go (no l) = let m : k < j = omega arith in omega (arith, mul-le-mul_right c m)

rounds-by : (a c k : ℕ) → 2 * apart (k * c) a ≤ c → (2 * apart (k * c) a ≡ c → k % 2 ≡ 0) → Rounds a c k
rounds-by a c k h t = record { nearest = λ j. go j (ℕ_discrete j k); even = λ j n e. t (omega (arith, others-far a c k j h n)) }
  where
    go : (j : ℕ) → Dec (j ≡ k) → apart (k * c) a ≤ apart (j * c) a
    go j (yes e) = rw e (le_refl (apart (k * c) a))
    go j (no n) = omega (arith, others-far a c k j h n)

-- The rule. All below goes by `Rounds` alone.
pub rounded-rounds : (a c : ℕ) → 0 < c → Rounds a c (rounded a c)
rounded-rounds a c p = go (dec_lt (2 * (a % c)) c) (dec_lt c (2 * (a % c)))
  where
    whole : a / c * c + a % c ≡ a
    whole = div-add-mod' a c

    below : 2 * (a % c) ≤ c → (2 * (a % c) ≡ c → a / c % 2 ≡ 0) → Rounds a c (a / c)
    below h t = rounds-by a c (a / c) (omega (arith, whole)) (λ e. t (omega (arith, whole)))

    above : c ≤ 2 * (a % c) → (2 * (a % c) ≡ c → (a / c + 1) % 2 ≡ 0) → Rounds a c (a / c + 1)
    above h t = rounds-by a c (a / c + 1) (omega (arith, whole, mod-lt a p)) (λ e. t (omega (arith, whole, mod-lt a p)))

    between : 2 * (a % c) ≡ c → Dec (a / c % 2 ≡ 0) → Rounds a c (a / c + a / c % 2)
    between e (yes z) = rw (z, add-zero) (below (omega arith) (λ _. z))
    between e (no n) = let o : a / c % 2 ≡ 1 = omega arith in rw o (above (omega arith) (λ _. omega arith))

    go : Dec (2 * (a % c) < c) → Dec (c < 2 * (a % c)) → Rounds a c (rounded a c)
    go (yes l) d = rw (rounded-down a c l) (below (omega arith) (λ e. omega arith))
    go (no l) (yes m) = rw (rounded-up a c m) (above (omega arith) (λ e. omega arith))
    go (no l) (no m) = let e : 2 * (a % c) ≡ c = omega arith in rw (rounded-tie a c e) (between e (ℕ_discrete (a / c % 2) 0))

-- it is off by at most a half
pub within-half : {a c : ℕ} (k : ℕ) → 0 < c → Rounds a c k → 2 * apart (k * c) a ≤ c
within-half zero p r = omega (arith, r.nearest 1)
within-half (suc k) p r = omega (arith, r.nearest k, r.nearest (suc (suc k)))

-- a fraction rounds to one number: two could only lie on either side of a tie, and one of them is odd

not-far : {a c k l : ℕ} → 0 < c → Rounds a c k → Rounds a c l → ¬ (k + 1 < l)
not-far {a} {c} {k} {l} p r q h = omega (arith, within-half k p r, within-half l p q, mul-le-mul_right c h)

not-below : {a c k l : ℕ} → 0 < c → Rounds a c k → Rounds a c l → ¬ (k < l)
not-below {a} {c} {k} {l} p r q h =
    let e : apart (l * c) a ≡ apart (k * c) a = le_antisymm (q.nearest k) (r.nearest l) in
    omega (arith, not-far p r q, r.even l (λ x. omega arith) e, q.even k (λ x. omega arith) (sym e))

pub rounds-once : {a c k l : ℕ} → 0 < c → Rounds a c k → Rounds a c l → k ≡ l
rounds-once p r q = omega (arith, not-below p r q, not-below p q r)
