-- The loops that read words from the front. What is left of the list decides, or has yet to be added.
use mathlib.Core.Path.{◌≡◌, refl}
use mathlib.Core.Bool.{Bool, true, false, ◌&&◌}
use mathlib.Core.List.{List, [], ◌∷◌}
use Prim.Native.Nat.{ℕ, zero, suc, ◌+◌, ◌-◌, ◌≤◌, ◌<◌, ◌*◌, ◌/◌, ◌%◌, min}
use native.Mathlib.Numerals.{add-one}
use native.Mathlib.Omega.{arith}
use lib.Dec.{eqb}
use lib.ListN.{length, get_or, drop, drop_of_length-le}
use lib.Seq.{drop-cons}
use Rattle.std.specs.Simd.{first_chunks}
use Rattle.model.specs.Lists.{sum, all_at_most}
use Rattle.model.specs.Records.{valid_words, whole_cells}
use Rattle.model.specs.Barrier.{most}
use Rattle.model.specs.Image.{flagged}

-- the word at i, and those behind it
pub word_at : (w : List ℕ) (i : ℕ) → i < length w → drop i w ≡ get_or w i 0 ∷ drop (i + 1) w
word_at w i h = rw add-one (drop-cons w i 0 h)

-- a barrier's flag and its counts

module _ {t : Bool} (flag : ℕ) (cs : List ℕ) where
  pub flag-absent : flag ≡ 0 → t ≡ all_at_most 0 cs → t ≡ flagged flag cs
  unfolding flagged
  flag-absent e h = rw e h

  pub flag-present : flag ≡ 1 → t ≡ all_at_most 4294967295 cs → t ≡ flagged flag cs
  unfolding flagged most
  flag-present e h = rw e h

pub flag-bad : (flag : ℕ) (cs : List ℕ) → (flag ≡ 0 → ⊥) → (flag ≡ 1 → ⊥) → false ≡ flagged flag cs
unfolding flagged
flag-bad zero cs a b = absurd (a refl)
flag-bad (suc zero) cs a b = absurd (b refl)
flag-bad (suc (suc k)) cs a b = refl

-- whole, valid cells

-- the three words of one, and of each
abbrev pub valid_cell : List ℕ → Bool
valid_cell ws = valid_words (get_or ws 0 0) (get_or ws 1 0) (get_or ws 2 0)

abbrev pub valid_cells : List (List ℕ) → Bool
valid_cells [] = true
valid_cells (ws ∷ rest) = valid_cell ws && valid_cells rest

short : (w : List ℕ) → length w < 3 → whole_cells w ≡ (eqb (length w) 0 && true)
unfolding whole_cells
short [] h = refl
short (a ∷ []) h = refl
short (a ∷ b ∷ []) h = refl
short (a ∷ b ∷ o ∷ w) h = absurd (omega arith)

and-turned : (a b d : Bool) → (a && (b && d)) ≡ (b && (a && d))
and-turned true b d = refl
and-turned false true d = refl
and-turned false false d = refl

cut : (k r : ℕ) (w : List ℕ) → length w ≡ 3 * k + r → r < 3 → whole_cells w ≡ (eqb r 0 && valid_cells (first_chunks 3 k w))
unfolding whole_cells
cut zero r w h l = let e : length w ≡ r = omega arith in rw (← e) (short w (omega arith))
cut (suc k) r [] h l = absurd (omega arith)
cut (suc k) r (a ∷ []) h l = absurd (omega arith)
cut (suc k) r (a ∷ b ∷ []) h l = absurd (omega arith)
cut (suc k) r (a ∷ b ∷ o ∷ w) h l = rw (cut k r w (omega arith) l) (and-turned (valid_words a b o) (eqb r 0) (valid_cells (first_chunks 3 k w)))

-- as the code cuts them
pub whole-cut : (w : List ℕ) → whole_cells w ≡ (eqb (length w % 3) 0 && valid_cells (first_chunks 3 (length w / 3) w))
whole-cut w = cut (length w / 3) (length w % 3) w (omega arith) (omega arith)

-- a sum, of which `left` is still allowed

pub record Summing (w : List ℕ) (limit left i : ℕ) : Type 0 where
  pub within : i ≤ length w
  pub low : left ≤ limit
  pub is : sum w + left ≡ limit + sum (drop i w)

pub sum-begin : (w : List ℕ) (limit : ℕ) → Summing w limit limit 0
sum-begin w limit = record { within = omega arith; low = omega arith; is = omega arith }

module _ {w : List ℕ} {limit left i : ℕ} (v : Summing w limit left i) where
  sum_step : i < length w → sum w + left ≡ limit + (get_or w i 0 + sum (drop (i + 1) w))
  unfolding sum
  sum_step h = rw (word_at w i h) at v.is

  pub sum-turn : i < length w → get_or w i 0 < left → Summing w limit (left - get_or w i 0) (i + 1)
  sum-turn h k = record { within = omega arith; low = omega (arith, v.low); is = omega (arith, sum_step h) }

  pub sum-stop : i < length w → left ≤ get_or w i 0 → limit ≡ min (sum w) limit
  sum-stop h k = omega (arith, sum_step h, v.low)

  pub sum_done : length w ≤ i → limit - left ≡ min (sum w) limit
  unfolding sum
  sum_done h = let e : sum w + left ≡ limit + 0 = rw (drop_of_length-le w {i = i} h) at v.is in omega (arith, v.low)

pub ruleset laws = (sum-begin, sum-turn, sum-stop, sum_done)
