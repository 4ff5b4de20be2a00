-- A figure is printed once: its text reads back as the figure, so no two figures share a text. Zero's is 0.000.
use mathlib.Core.Path.{◌≡◌, refl, sym, ap, ◌∙◌}
use mathlib.Core.Bool.{Bool, true, false, cond}
use mathlib.Core.List.{List, [], ◌∷◌, ◌++◌, append_assoc}
use Prim.Native.Nat.{ℕ, zero, suc, ◌+◌, ◌-◌, ◌*◌, ◌/◌, ◌%◌, ◌^◌, ◌≤◌, ◌<◌}
use native.Mathlib.Decide.{dec_le}
use native.Mathlib.Nat.{pow-suc}
use native.Mathlib.Omega.{arith}
use lib.Dec.{ltb, eqb}
use borrow.Author.Tests.{le-ltb, eq-eqb, ne_eqb}
use Rattle.model.specs.Figure.{Figure}
use Rattle.model.specs.Listing.{digits, decimal, figure_text}

-- ---- a number's digits

pub last-digit : (k n : ℕ) → n < 10 → digits (suc k) n ≡ (48 + n % 10) ∷ []
unfolding digits
last-digit k n h = rw (eq-eqb (n / 10) 0 (omega arith), digits)

pub more-digits : (k n : ℕ) → 10 ≤ n → digits (suc k) n ≡ digits k (n / 10) ++ (48 + n % 10) ∷ []
unfolding digits
more-digits k n h = rw (ne_eqb (n / 10) 0 (λ e. omega arith), digits)

-- ---- the number that a text's digits spell, other bytes left out, behind those of n

spelt : ℕ → List ℕ → ℕ
spelt n [] = n
spelt n (b ∷ w) = spelt (cond (ltb b 48) n (10 * n + (b - 48))) w

spelt-join : (n : ℕ) (v w : List ℕ) → spelt n (v ++ w) ≡ spelt (spelt n v) w
unfolding spelt
spelt-join n [] w = refl
spelt-join n (b ∷ v) w = spelt-join (cond (ltb b 48) n (10 * n + (b - 48))) v w

digit-spelt : (n d : ℕ) (w : List ℕ) → spelt n ((48 + d) ∷ w) ≡ spelt (10 * n + d) w
unfolding spelt
digit-spelt n d w = let e : 48 + d - 48 ≡ d = omega arith in rw (le-ltb (48 + d) 48 (omega arith), e)

digits-spelt : (k n : ℕ) → n < 10 ^ k → spelt 0 (digits k n) ≡ n
unfolding digits spelt
digits-spelt zero n h = omega arith
digits-spelt (suc k) n h = go (dec_le 10 n) (digits-spelt k (n / 10) (omega (arith, pow-suc 10 k)))
  where
    last : List ℕ
    last = (48 + n % 10) ∷ []

    go : Dec (10 ≤ n) → spelt 0 (digits k (n / 10)) ≡ n / 10 → spelt 0 (digits (suc k) n) ≡ n
    go (yes l) s = rw (more-digits k n l) (spelt-join 0 (digits k (n / 10)) last ∙ ap (λ (m : ℕ). spelt m last) s ∙ digit-spelt (n / 10) (n % 10) [] ∙ omega arith)
    go (no l) s = rw (last-digit k n (omega arith)) (digit-spelt 0 (n % 10) [] ∙ omega arith)

-- ---- whether it begins with a minus

signed : List ℕ → Bool
signed [] = false
signed (b ∷ w) = eqb b 0x2D

digits-unsigned : (k n : ℕ) (w : List ℕ) → signed w ≡ false → signed (digits k n ++ w) ≡ false
unfolding digits signed
digits-unsigned zero n w h = h
digits-unsigned (suc k) n w h = go (dec_le 10 n) (digits-unsigned k (n / 10) ((48 + n % 10) ∷ w) digit)
  where
    digit : eqb (48 + n % 10) 0x2D ≡ false
    digit = ne_eqb (48 + n % 10) 0x2D (λ e. omega arith)

    go : Dec (10 ≤ n) → signed (digits k (n / 10) ++ (48 + n % 10) ∷ w) ≡ false → signed (digits (suc k) n ++ w) ≡ false
    go (yes l) s = rw (more-digits k n l, append_assoc) s
    go (no l) s = rw (last-digit k n (omega arith)) digit

-- ---- a figure's text

sign-spelt : (b : Bool) (w : List ℕ) → spelt 0 (cond b (0x2D ∷ []) [] ++ w) ≡ spelt 0 w
unfolding spelt
sign-spelt true w = refl
sign-spelt false w = refl

decimals-spelt : (k : ℕ) → spelt (k / 1000) (0x2E ∷ (48 + k / 100 % 10) ∷ (48 + k / 10 % 10) ∷ (48 + k % 10) ∷ []) ≡ k
unfolding spelt
decimals-spelt k =
    let n = k / 1000 in
    digit-spelt n (k / 100 % 10) ((48 + k / 10 % 10) ∷ (48 + k % 10) ∷ [])
    ∙ digit-spelt (10 * n + k / 100 % 10) (k / 10 % 10) ((48 + k % 10) ∷ [])
    ∙ digit-spelt (10 * (10 * n + k / 100 % 10) + k / 10 % 10) (k % 10) []
    ∙ omega arith

text-spelt : (f : Figure) → f.thousandths ≤ 999999999 → spelt 0 (figure_text f) ≡ f.thousandths
unfolding figure_text decimal
text-spelt f h =
    let k = f.thousandths in
    let whole = digits 20 (k / 1000) in
    let point : List ℕ = 0x2E ∷ (48 + k / 100 % 10) ∷ (48 + k / 10 % 10) ∷ (48 + k % 10) ∷ [] in
    spelt-join 0 (cond f.negative (0x2D ∷ []) [] ++ whole) point
    ∙ ap (λ (m : ℕ). spelt m point) (sign-spelt f.negative whole ∙ digits-spelt 20 (k / 1000) (omega arith))
    ∙ decimals-spelt k

text-signed : (f : Figure) → signed (figure_text f) ≡ f.negative
unfolding figure_text decimal signed
text-signed f = go f.negative
  where
    k : ℕ
    k = f.thousandths

    go : (b : Bool) → signed (cond b (0x2D ∷ []) [] ++ digits 20 (k / 1000) ++ 0x2E ∷ (48 + k / 100 % 10) ∷ (48 + k / 10 % 10) ∷ (48 + k % 10) ∷ []) ≡ b
    go true = refl
    go false = digits-unsigned 20 (k / 1000) (0x2E ∷ (48 + k / 100 % 10) ∷ (48 + k / 10 % 10) ∷ (48 + k % 10) ∷ []) refl

pub printed-once : (f g : Figure) → f.thousandths ≤ 999999999 → g.thousandths ≤ 999999999 → figure_text f ≡ figure_text g → f ≡ g
printed-once f g p q e = λ i. record { negative = sign i; thousandths = size i }
  where
    sign : f.negative ≡ g.negative
    sign = sym (text-signed f) ∙ ap signed e ∙ text-signed g

    size : f.thousandths ≡ g.thousandths
    size = sym (text-spelt f p) ∙ ap (spelt 0) e ∙ text-spelt g q

pub zero-text : (f : Figure) → f.thousandths ≡ 0 → f.negative ≡ false → figure_text f ≡ 0x30 ∷ 0x2E ∷ 0x30 ∷ 0x30 ∷ 0x30 ∷ []
unfolding figure_text decimal digits
zero-text f z s = rw (z, s) refl
