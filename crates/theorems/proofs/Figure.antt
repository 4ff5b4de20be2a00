-- The figure is the Float's exact value in thousandths, rounded; it is off by at most half a thousandth, and the Float has no other.
use mathlib.Core.Path.{◌≡◌, refl, sym, ◌∙◌}
use mathlib.Core.Bool.{Bool, true, false, and-true, and-false}
use Prim.Native.Nat.{ℕ, ◌*◌, ◌<◌}
use native.Mathlib.Decide.{dec_lt}
use native.Mathlib.Omega.{arith}
use lib.IntN.{ℤ}
use lib.Dec.{leb}
use lib.Ieee.{Float, nan, inf, fin, up, down}
use lib.Ieee.Exact.{HasValue}
use lib.Ieee.Fits.{down_pos}
use borrow.Author.Tests.{leb-true, leb-false, lt-leb, lt-ltb}
use Rattle.model.specs.Res.{ok, refuse, ◌>>=◌, ask}
use Rattle.model.specs.Figure.{Figure, rounded, figure_of}
use Rattle.theorems.specs.Holds.{Holds, such, none}
use Rattle.theorems.specs.Rounding.{Rounds, FigureOf, NoFigure, not_a_number, infinite, beyond}
use Rattle.theorems.proofs.Res.{asked}
use Rattle.theorems.proofs.Rounding.{rounded-same, rounded-rounds, within-half, rounds-once}

-- m × 2^e in thousandths
abbrev thousandths-of : ℕ → ℤ → ℕ
thousandths-of m e = rounded (1000 * (m * up e)) (down e)

thousandths-round : (m : ℕ) (e : ℤ) (a : ℕ) {c : ℕ} → 0 < c → m * up e * c ≡ a * down e → Rounds (1000 * a) c (thousandths-of m e)
thousandths-round m e a {c} p v = rw (rounded-same (1000 * (m * up e)) (down e) (1000 * a) c (down_pos e) p (omega arith)) (rounded-rounds (1000 * a) c p)

pub figure-rounds : (x : Float) (s : Bool) (a c : ℕ) → 0 < c → HasValue x s a c → Holds (FigureOf s a c) (figure_of x)
unfolding figure_of
figure-rounds nan s a c p v = none
figure-rounds (inf t) s a c p v = none
figure-rounds (fin t m e) s a c p v =
    let k = thousandths-of m e in
    asked 15 (leb k 999999999) _ λ h.
    let r = thousandths-round m e a p v.1 in
    such (record { rounds = r; half = within-half k p r; sign = λ z. rw (lt-ltb, and-true) v.0; zero_unsigned = λ z. rw (z, and-false); limit = leb-true k 999999999 h })

-- a Float has one figure
pub figure-once : {s : Bool} {a c : ℕ} {f g : Figure} → 0 < c → FigureOf s a c f → FigureOf s a c g → f ≡ g
figure-once {f = f} {g = g} p q r = λ i. record { negative = sign i; thousandths = size i }
  where
    size : f.thousandths ≡ g.thousandths
    size = rounds-once p q.rounds r.rounds

    by : Dec (0 < f.thousandths) → f.negative ≡ g.negative
    by (yes h) = q.sign h ∙ sym (r.sign (omega (arith, size)))
    by (no h) = q.zero_unsigned (omega arith) ∙ sym (r.zero_unsigned (omega (arith, size)))

    sign : f.negative ≡ g.negative
    sign = by (dec_lt 0 f.thousandths)

-- question 15 is the only one, and its no is exactly for what has no figure

refused : (b : Bool) (f : Figure) {q : ℕ} → (ask 15 b >>= λ _. ok f) ≡ refuse q → (q ≡ 15) × (b ≡ false)
refused true f e = (cc, cc)
refused false f e = (cc, refl)

pub refused-only : (x : Float) {q : ℕ} → figure_of x ≡ refuse q → (q ≡ 15) × NoFigure x
unfolding figure_of
refused-only nan h = (cc, not_a_number)
refused-only (inf s) h = (cc, infinite)
refused-only (fin s m e) h =
    let k = thousandths-of m e in
    let r = refused (leb k 999999999) _ h in
    let a = m * up e in
    (r.0, beyond {x = fin s m e} s a (down_pos e) (refl, refl) (thousandths-round m e a (down_pos e) refl) (leb-false k 999999999 r.1))

pub refused-always : (x : Float) → NoFigure x → figure_of x ≡ refuse 15
unfolding figure_of
refused-always nan n = refl
refused-always (inf s) n = refl
refused-always (fin t m e) (beyond {k = k} s a p v r h) = rw (rounds-once p (thousandths-round m e a p v.1) r, lt-leb k 999999999 h)
