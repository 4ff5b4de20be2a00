-- The nursery's lengths, one after the other.
use mathlib.Core.Path.{◌≡◌, refl, sym, ◌∙◌}
use mathlib.Core.Bool.{Bool, true, false, ◌&&◌}
use mathlib.Core.List.{List, ◌∷◌}
use Prim.Native.Nat.{ℕ, zero, suc, ◌+◌, ◌-◌, ◌≤◌, ◌<◌}
use native.Mathlib.Omega.{arith}
use lib.Dec.{eqb, ltb, leb}
use borrow.Author.Tests.{ne_eqb}
use lib.ListN.{length, get_or, drop, drop_of_length-le}
use Rattle.model.specs.Image.{tiles}
use Rattle.std.specs.Prelude.{Option, Some, None}
use Rattle.image.specs.Tiling.{next_if, tile_of}
use Rattle.image.proofs.Scans.{word_at}

-- one length

pub inside : (left skip x : ℕ) → 0 < skip → tile_of left skip x ≡ next_if (eqb x 0) left (skip - 1)
unfolding tile_of
inside left zero x h = absurd (omega arith)
inside left (suc skip) x h = let e : suc skip - 1 ≡ skip = omega arith in rw e

pub behind : (left skip x : ℕ) → skip ≤ 0 → left ≡ 0 → tile_of left skip x ≡ next_if (eqb x 0) 0 0
unfolding tile_of
behind left zero x h e = rw e
behind left (suc skip) x h e = absurd (omega arith)

pub here : (left skip x : ℕ) → skip ≤ 0 → (left ≡ 0 → ⊥) → tile_of left skip x ≡ next_if (ltb 0 x && leb x left) (left - x) (x - 1)
unfolding tile_of
here left zero x h d = rw (ne_eqb left 0 d, tile_of)
here left (suc skip) x h d = absurd (omega arith)

-- the list behind it

abbrev go_on : Option (ℕ × ℕ) → List ℕ → Bool
go_on (Some n) xs = tiles n.0 n.1 xs
go_on None xs = false

goes : (t : Bool) (left skip : ℕ) (xs : List ℕ) → (t && tiles left skip xs) ≡ go_on (next_if t left skip) xs
goes true left skip xs = refl
goes false left skip xs = refl

tile-step : (left skip x : ℕ) (xs : List ℕ) → tiles left skip (x ∷ xs) ≡ go_on (tile_of left skip x) xs
unfolding tiles tile_of
tile-step left (suc skip) x xs = goes (eqb x 0) left skip xs
tile-step left zero x xs = go (eqb left 0)
  where
    go : (t : Bool) → elim t [ true ↦ eqb x 0 && tiles 0 0 xs | false ↦ ltb 0 x && leb x left && tiles (left - x) (x - 1) xs ] ≡ go_on (elim t [ true ↦ next_if (eqb x 0) 0 0 | false ↦ next_if (ltb 0 x && leb x left) (left - x) (x - 1) ]) xs
    go true = goes (eqb x 0) 0 0 xs
    go false = goes (ltb 0 x && leb x left) (left - x) (x - 1) xs

-- the loop: what is left of the list decides

pub record Filling (w : List ℕ) (goal : Bool) (left skip i : ℕ) : Type 0 where
  pub within : i ≤ length w
  pub is : tiles left skip (drop i w) ≡ goal

pub tiles-begin : (w : List ℕ) (left : ℕ) → Filling w (tiles left 0 w) left 0 0
tiles-begin w left = record { within = omega arith; is = refl }

module _ {w : List ℕ} {goal : Bool} {left skip i : ℕ} (v : Filling w goal left skip i) where
  tiles-step : {r : Option (ℕ × ℕ)} → i < length w → r ≡ tile_of left skip (get_or w i 0) → go_on r (drop (i + 1) w) ≡ goal
  tiles-step h e = rw e (sym (tile-step left skip (get_or w i 0) (drop (i + 1) w)) ∙ (rw (word_at w i h) at v.is))

  pub tiles-turn : {r : Option (ℕ × ℕ)} {l s : ℕ} → i < length w → r ≡ tile_of left skip (get_or w i 0) → r ≡ Some (l, s) → Filling w goal l s (i + 1)
  tiles-turn h e p = record { within = omega arith; is = rw p at (tiles-step h e) }

  pub tiles-stop : {r : Option (ℕ × ℕ)} → i < length w → r ≡ tile_of left skip (get_or w i 0) → r ≡ None → false ≡ goal
  tiles-stop h e p = rw p at (tiles-step h e)

  pub tiles-done : length w ≤ i → eqb left 0 ≡ goal
  unfolding tiles
  tiles-done h = rw (drop_of_length-le w {i = i} h) at v.is

pub ruleset laws = (tiles-begin, tiles-turn, tiles-stop, tiles-done)
