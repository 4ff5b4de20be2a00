-- Rounding: a figure is a Float's exact value in thousandths, rounded once to the nearest whole number, and of two that are
-- equally near to the even one. `HasValue x s a c`, with c above 0, says that x is finite, has the sign s, and is a / c in size.
use Rattle.std.specs.Prelude.{◌≡◌, Bool, false, ℕ, ◌+◌, ◌-◌, ◌*◌, ◌%◌, ◌≤◌, ◌<◌, Float}
use Rattle.std.specs.Float.{nan, inf}
use Rattle.std.specs.Float.Ieee.Exact.{HasValue}
use Rattle.model.specs.Figure.{Figure}

-- how far two numbers are apart
abbrev pub apart : ℕ → ℕ → ℕ
apart x y = x - y + (y - x)

-- k is a / c rounded to a whole number: none is nearer, and where another is as near, k is even. Distances are taken c times
pub record Rounds (a c k : ℕ) : Type 0 where
  pub nearest : (j : ℕ) → apart (k * c) a ≤ apart (j * c) a
  pub even : (j : ℕ) → ¬ (j ≡ k) → apart (j * c) a ≡ apart (k * c) a → k % 2 ≡ 0

-- f is the figure of a / c with the sign s, and off by at most half a thousandth
pub record FigureOf (s : Bool) (a c : ℕ) (f : Figure) : Type 0 where
  pub rounds : Rounds (1000 * a) c f.thousandths
  pub half : 2 * apart (f.thousandths * c) (1000 * a) ≤ c
  pub sign : 0 < f.thousandths → f.negative ≡ s
  pub zero_unsigned : f.thousandths ≡ 0 → f.negative ≡ false
  pub limit : f.thousandths ≤ 999999999

-- what question 15 says no to
pub data NoFigure : Float → Type 0 where
  not_a_number : NoFigure nan
  infinite : {s : Bool} → NoFigure (inf s)
  beyond : {x : Float} {c k : ℕ} (s : Bool) (a : ℕ) → 0 < c → HasValue x s a c → Rounds (1000 * a) c k → 999999999 < k → NoFigure x
