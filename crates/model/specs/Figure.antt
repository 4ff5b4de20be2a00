-- Figure: the exact product of a Float and 1,000, rounded once to a whole number, a tie to the even one.
use Rattle.std.specs.Prelude.{Bool, ◌&&◌, cond, ℕ, ◌+◌, ◌*◌, ◌/◌, ◌%◌, ltb, leb, Float}
use Rattle.std.specs.Float.{nan, inf, fin, binary64}
use Rattle.std.specs.Float.Ieee.{up, down, of_bits}
use Rattle.model.specs.Res.{Res, ok, refuse, ◌>>=◌, ask}

-- a sign and thousandths; zero has no sign
pub record Figure : Type 0 where
  pub negative : Bool
  pub thousandths : ℕ

-- a / c rounded to a whole number: down below a half, up above it; of two that are equally near, the even one
unfoldable pub rounded : ℕ → ℕ → ℕ
rounded a c =
    let q = a / c in
    let r = a % c in
    cond (ltb (2 * r) c) q (cond (ltb c (2 * r)) (q + 1) (q + q % 2))

-- 15. Is it finite, and its figure at most 999999.999 either way? The number m × 2^e is the fraction (m × up e) / down e.
unfoldable pub figure_of : Float → Res Figure
figure_of nan = refuse 15
figure_of (inf s) = refuse 15
figure_of (fin s m e) =
    let k = rounded (1000 * (m * up e)) (down e) in
    ask 15 (leb k 999999999) >>= λ _. ok (record { negative = s && ltb 0 k; thousandths = k })

-- of a Float's 64 bits
unfoldable pub figure : ℕ → Res Figure
figure bits = figure_of (of_bits binary64 bits)
