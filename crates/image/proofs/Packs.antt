-- Packed cells: so many valid ones, then zeros.
use mathlib.Core.Path.{◌≡◌, refl, sym, ◌∙◌}
use mathlib.Core.Bool.{Bool, true, false, ◌&&◌}
use mathlib.Core.List.{List, [], ◌∷◌}
use Prim.Native.Nat.{ℕ, zero, suc, ◌+◌, ◌-◌, ◌*◌, ◌≤◌, ◌<◌, min}
use native.Mathlib.Omega.{arith}
use lib.Dec.{eqb, leb, eqb-suc-zero, leb-suc-zero}
use borrow.Author.Tests.{leb-true, leb-false}
use lib.ListN.{length, take, drop, length-drop}
use lib.Seq.{take_all}
use Rattle.model.specs.Lists.{all_at_most}
use Rattle.model.specs.Records.{valid_words, whole_cells}
use Rattle.model.specs.Image.{packed_cells}
use Rattle.theorems.proofs.Cells.{packed-room}

pub and_assoc : (a b c : Bool) → (a && (b && c)) ≡ ((a && b) && c)
and_assoc true b c = refl
and_assoc false b c = refl

leb-zero : (x : ℕ) → eqb x 0 ≡ leb x 0
leb-zero zero = refl
leb-zero (suc x) = eqb-suc-zero x ∙ sym (leb-suc-zero x)

-- no cell, and nothing but zeros
no_cells : (w : List ℕ) (c : ℕ) → length w ≡ 3 * c → packed_cells 0 w ≡ all_at_most 0 w
unfolding packed_cells all_at_most
no_cells [] c h = refl
no_cells (a ∷ []) c h = absurd (omega arith)
no_cells (a ∷ b ∷ []) c h = absurd (omega arith)
no_cells (a ∷ b ∷ o ∷ w) c h = rw (no_cells w (c - 1) (omega arith), leb-zero a, leb-zero b, leb-zero o) (simp and_assoc)

split : (k : ℕ) (w : List ℕ) (c : ℕ) → length w ≡ 3 * c → k ≤ c → packed_cells k w ≡ (whole_cells (take (3 * k) w) && all_at_most 0 (drop (3 * k) w))
unfolding packed_cells whole_cells
split zero w c h r = no_cells w c h
split (suc k) [] c h r = absurd (omega arith)
split (suc k) (a ∷ []) c h r = absurd (omega arith)
split (suc k) (a ∷ b ∷ []) c h r = absurd (omega arith)
split (suc k) (a ∷ b ∷ o ∷ w) c h r =
    let three : 3 * suc k ≡ suc (suc (suc (3 * k))) = omega arith in
    rw (three, split k w (c - 1) (omega arith) (omega arith)) (and_assoc (valid_words a b o) (whole_cells (take (3 * k) w)) (all_at_most 0 (drop (3 * k) w)))

module _ (k : ℕ) (w : List ℕ) (c : ℕ) (h : length w ≡ 3 * c) where
  packed-over : c < k → packed_cells k w ≡ false
  packed-over r = go (packed_cells k w) refl
    where
      go : (t : Bool) → packed_cells k w ≡ t → t ≡ false
      go true e = absurd (omega (arith, packed-room k w e))
      go false e = refl

  -- `k` cells, and the rest as the code takes it
  pub packed-split : packed_cells k w ≡ (leb k c && whole_cells (take (3 * k) w) && all_at_most 0 (take (length w - 3 * k) (drop (3 * k) w)))
  packed-split = go (leb k c) refl
    where
      go : (t : Bool) → leb k c ≡ t → packed_cells k w ≡ (t && whole_cells (take (3 * k) w) && all_at_most 0 (take (length w - 3 * k) (drop (3 * k) w)))
      go true e = rw (take_all (length w - 3 * k) (drop (3 * k) w) (omega (arith, length-drop (3 * k) w))) (split k w c h (leb-true k c e))
      go false e = packed-over (leb-false k c e)

-- more than c cells do not fit, however many more
pub packed-capped : (k : ℕ) (w : List ℕ) (c : ℕ) → length w ≡ 3 * c → packed_cells (min k (c + 1)) w ≡ packed_cells k w
packed-capped k w c h = go (leb k c) refl
  where
    go : (t : Bool) → leb k c ≡ t → packed_cells (min k (c + 1)) w ≡ packed_cells k w
    go true e = let m : min k (c + 1) ≡ k = omega (arith, leb-true k c e) in rw m
    go false e =
        let over = leb-false k c e in
        packed-over (min k (c + 1)) w c h (omega arith) ∙ sym (packed-over k w c h over)
