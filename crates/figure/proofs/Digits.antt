-- A number's text is the library's, and the library's logarithm says how long it is.
use mathlib.Core.Path.{◌≡◌, ap, ◌∙◌}
use mathlib.Core.List.{[], ◌∷◌}
use Prim.Native.Nat.{ℕ, zero, suc, ◌+◌, ◌*◌, ◌/◌, ◌%◌, ◌^◌, ◌≤◌, ◌<◌, max}
use native.Mathlib.Decide.{dec_le}
use native.Mathlib.Nat.{pow-suc, mod-eq_of_lt}
use native.Mathlib.Omega.{arith}
use lib.ListN.{length, length-append}
use lib.Pow.{pow_pos}
use Rattle.std.specs.Fmt.{decimal as std_decimal}
use Rattle.std.proofs.lemmas.Fmt.{AppendsLastDigit, decimal_from_appends, length-decimal-le}
use Rattle.model.specs.Listing.{digits, decimal}
use Rattle.theorems.proofs.Printed.{last-digit, more-digits}

appends : AppendsLastDigit digits
appends = record { one = λ k n h. last-digit k n h ∙ ap (λ d. (48 + d) ∷ []) (mod-eq_of_lt h); more = more-digits }

pub decimal-is : (n : ℕ) → n < 2 ^ 64 → decimal n ≡ std_decimal n
unfolding decimal
decimal-is n h = decimal_from_appends digits appends 20 n h (length-decimal-le 20 n (omega arith) (omega arith) h)

length_last : (k n : ℕ) → n < 10 → length (digits (suc k) n) ≡ 1
length_last k n h = rw (last-digit k n h)

length_more : (k n : ℕ) → 10 ≤ n → length (digits (suc k) n) ≡ length (digits k (n / 10)) + 1
length_more k n h = rw (more-digits k n h) (length-append (digits k (n / 10)) ((48 + n % 10) ∷ []))

digits-length : (k n : ℕ) → length (digits k n) ≤ k
unfolding digits
digits-length zero n = omega arith
digits-length (suc k) n = go (dec_le 10 n) (digits-length k (n / 10))
  where
    go : Dec (10 ≤ n) → length (digits k (n / 10)) ≤ k → length (digits (suc k) n) ≤ suc k
    go (yes h) l = omega (arith, length_more k n h)
    go (no h) l = omega (arith, length_last k n (omega arith))

pub decimal-length : (n : ℕ) → length (decimal n) ≤ 20
unfolding decimal
decimal-length n = digits-length 20 n

digits-counted : (j k n : ℕ) → k < j → 10 ^ k ≤ n → n < 10 * 10 ^ k → length (digits j n) ≡ k + 1
digits-counted zero k n b l u = absurd (omega arith)
digits-counted (suc j) zero n b l u = length_last j n (omega arith)
digits-counted (suc j) (suc k) n b l u =
    omega (arith, pow-suc, length_more j n (omega arith), digits-counted j k (n / 10) (omega arith) (omega arith) (omega arith))

-- 0 has the one digit of 1
pub decimal-counted : (n k : ℕ) → k < 20 → 10 ^ k ≤ max n 1 → max n 1 < 10 * 10 ^ k → length (decimal n) ≡ k + 1
unfolding decimal
decimal-counted zero zero b l u = length_last 19 0 (omega arith)
decimal-counted zero (suc k) b l u = absurd (omega (arith, pow-suc, pow_pos k))
decimal-counted (suc n) k b l u = digits-counted 20 k (suc n) b (omega arith) (omega arith)
