-- The listing's texts have no LF: they are words, decimals, spaces, a minus and a point.
use mathlib.Core.Path.{◌≡◌, refl}
use mathlib.Core.Bool.{Bool, true, false, not, ◌&&◌, cond, and_assoc}
use mathlib.Core.List.{List, [], ◌∷◌, ◌++◌, append_assoc}
use Prim.Native.Nat.{ℕ, zero, suc, ◌+◌, ◌-◌, ◌%◌, ◌/◌}
use native.Mathlib.Omega.{arith}
use lib.Dec.{ltb, eqb}
use borrow.Author.Tests.{ne_eqb}
use Rattle.model.specs.Records.{Cell, plain, ref}
use Rattle.model.specs.Figure.{Figure}
use Rattle.model.specs.Run.{Line, new_line, alloc_line, set_line, load_line, store_line, report_line, figure_line, no_line}
use Rattle.model.specs.Listing.{digits, decimal, signed, spaced, figure_text, cell_text, new_word, alloc_word, set_word, load_word, store_word, report_word, figure_word, no_word, line_text, line}
use Rattle.theorems.specs.Reading.{no_lf, IsLine}

no_lf-join : (v w : List ℕ) → no_lf (v ++ w) ≡ (no_lf v && no_lf w)
unfolding no_lf
no_lf-join [] w = refl
no_lf-join (b ∷ v) w = rw (no_lf-join v w, and_assoc)

-- numbers

digit-text : (n : ℕ) → not (eqb (48 + n % 10) 0x0A) ≡ true
digit-text n = rw (ne_eqb (48 + n % 10) 0x0A (λ e. omega arith))

digits-text : (k n : ℕ) → no_lf (digits k n) ≡ true
unfolding digits no_lf
digits-text zero n = refl
digits-text (suc k) n = go (eqb (n / 10) 0) (digits-text k (n / 10))
  where
    go : (b : Bool) → no_lf (digits k (n / 10)) ≡ true → no_lf (elim b [ true ↦ (48 + n % 10) ∷ [] | false ↦ digits k (n / 10) ++ (48 + n % 10) ∷ [] ]) ≡ true
    go true h = simp digit-text
    go false h = simp (no_lf-join, digit-text, h)

decimal-text : (n : ℕ) → no_lf (decimal n) ≡ true
unfolding decimal
decimal-text n = digits-text 20 n

signed-text : (w : ℕ) → no_lf (signed w) ≡ true
unfolding signed no_lf
signed-text w = go (ltb w 0x8000_0000_0000_0000)
  where
    go : (b : Bool) → no_lf (cond b (decimal w) (0x2D ∷ decimal (0x1_0000_0000_0000_0000 - w))) ≡ true
    go true = decimal-text w
    go false = decimal-text (0x1_0000_0000_0000_0000 - w)

spaced-text : (xs : List ℕ) → no_lf (spaced xs) ≡ true
unfolding spaced no_lf
spaced-text [] = refl
spaced-text (x ∷ xs) = simp (no_lf-join, decimal-text, spaced-text xs)

figure-text : (f : Figure) → no_lf (figure_text f) ≡ true
unfolding figure_text no_lf
figure-text f = go f.negative
  where
    k : ℕ
    k = f.thousandths

    go : (b : Bool) → no_lf (cond b (0x2D ∷ []) [] ++ decimal (k / 1000) ++ 0x2E ∷ (48 + k / 100 % 10) ∷ (48 + k / 10 % 10) ∷ (48 + k % 10) ∷ []) ≡ true
    go true = simp (no_lf-join, decimal-text, digit-text)
    go false = simp (no_lf-join, decimal-text, digit-text)

cell-text : (c : Cell) → no_lf (cell_text c) ≡ true
unfolding cell_text
cell-text (plain k v) = spaced-text (k ∷ 0 ∷ v ∷ 0 ∷ [])
cell-text (ref p) = spaced-text (5 ∷ p.heap ∷ p.base ∷ p.off ∷ [])

pub line-text : (l : Line) → no_lf (line_text l) ≡ true
unfolding line_text new_word alloc_word set_word load_word store_word report_word figure_word no_word no_lf
line-text new_line = refl
line-text (alloc_line p counts) = simp (no_lf-join, signed-text, spaced-text)
line-text set_line = refl
line-text (load_line c) = cell-text c
line-text store_line = refl
line-text (report_line numbers) = spaced-text numbers
line-text (figure_line f) = figure-text f
line-text (no_line q) = spaced-text (q ∷ [])

pub line-is : (n : ℕ) (l : Line) → IsLine (line n l)
unfolding line no_lf
line-is n l = record { text = decimal n ++ 0x20 ∷ line_text l; one = simp (no_lf-join, decimal-text, line-text l); ends = simp append_assoc }
