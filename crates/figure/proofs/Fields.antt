-- The figure of a Float by the fields of its bits. How a tie is rounded plays no part.
use mathlib.Core.Path.{◌≡◌, refl, sym, ap, ◌∙◌}
use mathlib.Core.Bool.{Bool, true, false, cond}
use Prim.Native.Nat.{ℕ, zero, suc, ◌+◌, ◌-◌, ◌*◌, ◌^◌, ◌<◌, ◌≤◌}
use native.Mathlib.Nat.{mul-one, mul-le-mul_right, le-add_right, lt_of_mul-lt-mul_right, mod-eq_of_lt, div-eq_of_lt}
use native.Mathlib.Omega.{arith}
use lib.Dec.{eqb}
use lib.Pow.{pow_pos, pow_mono, pow-add}
use lib.Ieee.{Float, nan, inf, fin, up, down, binary64, of_fields, odd}
use lib.Ieee.Exact.{HasValue, odd_sign}
use lib.Ieee.Fits.{down_pos}
use borrow.Author.Tests.{ne_eqb, lt-leb}
use Rattle.model.specs.Res.{refuse}
use Rattle.model.specs.Figure.{rounded, figure_of}
use Rattle.theorems.specs.Rounding.{Rounds}
use Rattle.theorems.proofs.Rounding.{rounded-down, rounded-same, rounded-rounds, within-half}
use Rattle.figure.specs.Answer.{limited}

pub below_half : (a c : ℕ) → 2 * a < c → rounded a c ≡ 0
below_half a c h = let l : a < c = omega arith in rounded-down a c (rw (mod-eq_of_lt l) h) ∙ div-eq_of_lt l

by_value : (x : Float) (s : Bool) (a c : ℕ) → 0 < c → HasValue x s a c → figure_of x ≡ limited s (rounded (1000 * a) c)
unfolding figure_of
by_value nan s a c p h = absurd h
by_value (inf t) s a c p h = absurd h
by_value (fin t m e) s a c p h =
    let v : m * up e * c ≡ a * down e = h.1 in
    rw (h.0, rounded-same (1000 * (m * up e)) (down e) (1000 * a) c (down_pos e) p (omega arith))

by-odd : (s : Bool) (q k : ℕ) → figure_of (odd 53 s q k 1074) ≡ limited s (rounded (1000 * (q * 2 ^ k)) (2 ^ 1074))
by-odd s q k = by_value (odd 53 s q k 1074) s (q * 2 ^ k) (2 ^ 1074) (pow_pos 1074) (odd_sign 53 s q k 1074)

-- the field 0: no leading digit
pub fields-zero : (s : Bool) (t : ℕ) → figure_of (of_fields binary64 s 0 t) ≡ limited s (rounded (1000 * t) (2 ^ 1074))
unfolding of_fields
fields-zero s t = by-odd s t 0 ∙ ap (λ (k : ℕ). limited s (rounded (1000 * k) (2 ^ 1074))) (mul-one t)

scaled : (q y z w : ℕ) → y * z ≡ w → 1000 * (q * y) * z ≡ 1000 * q * w
scaled q y z w h = rw (← h) (omega arith)

-- a field below 1043
pub fields-some : (s : Bool) (n t : ℕ) → 0 < n → n < 1043 → figure_of (of_fields binary64 s n t) ≡ limited s (rounded (1000 * (2 ^ 52 + t)) (2 ^ (1075 - n)))
unfolding of_fields
fields-some s zero t p l = absurd (omega arith)
fields-some s (suc x) t p l =
    let e : 1075 - suc x ≡ 1074 - x = omega arith in
    let w : x + (1074 - x) ≡ 1074 = omega arith in
    let pw : 2 ^ x * 2 ^ (1074 - x) ≡ 2 ^ 1074 = sym (pow-add 2 x (1074 - x)) ∙ ap (λ (k : ℕ). 2 ^ k) w in
    rw (ne_eqb (suc x) 2047 (λ q. omega arith), e)
    (by-odd s (2 ^ 52 + t) x
    ∙ ap (limited s)
    (rounded-same (1000 * ((2 ^ 52 + t) * 2 ^ x)) (2 ^ 1074) (1000 * (2 ^ 52 + t)) (2 ^ (1074 - x)) (pow_pos 1074) (pow_pos (1074 - x))
    (scaled (2 ^ 52 + t) (2 ^ x) (2 ^ (1074 - x)) (2 ^ 1074) pw)))

-- from the field 1043 on: above the limit, infinite or a NaN

not_finite : (s b : Bool) → figure_of (cond b (inf s) nan) ≡ refuse 15
unfolding figure_of
not_finite s true = refl
not_finite s false = refl

-- over variables: `omega` reads no number of more than 38 digits
far : (z y q c k : ℕ) → 0 < z → z ≤ y → 2 ^ 52 * y ≤ q → c ≡ 2 ^ 32 * z → Rounds (1000 * q) c k → 999999999 < k
far z y q c k p h l e r = lt_of_mul-lt-mul_right c (omega (arith, within-half k (omega arith) r))

big-by : (s : Bool) (x t : ℕ) → 1042 ≤ x → (b b' : Bool) → figure_of (cond b (cond b' (inf s) nan) (odd 53 s (2 ^ 52 + t) x 1074)) ≡ refuse 15
big-by s x t h true b' = not_finite s b'
big-by s x t h false b' =
    let q = (2 ^ 52 + t) * 2 ^ x in
    let k = rounded (1000 * q) (2 ^ 1074) in
    let over : 999999999 < k = far (2 ^ 1042) (2 ^ x) q (2 ^ 1074) k (pow_pos 1042) (pow_mono h) (mul-le-mul_right (2 ^ x) (le-add_right (2 ^ 52) t)) refl (rounded-rounds (1000 * q) (2 ^ 1074) (pow_pos 1074)) in
    by-odd s (2 ^ 52 + t) x ∙ rw (lt-leb k 999999999 over)

pub fields-big : (s : Bool) (n t : ℕ) → 1043 ≤ n → figure_of (of_fields binary64 s n t) ≡ refuse 15
unfolding of_fields
fields-big s zero t h = absurd (omega arith)
fields-big s (suc x) t h = big-by s x t (omega arith) (eqb (suc x) 2047) (eqb t 0)
