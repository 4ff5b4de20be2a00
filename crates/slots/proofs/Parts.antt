-- A tail that was lent, and a word before it that was stored.
use mathlib.Core.Path.{◌≡◌, sym, ap, ◌∙◌}
use mathlib.Core.List.{List, ◌++◌, append-nil, append_assoc}
use Prim.Native.Nat.{ℕ, ◌-◌, ◌≤◌, ◌<◌}
use native.Mathlib.Omega.{arith}
use lib.ListN.{length, set, take, drop, length-append, length-drop, take-append-drop, drop_of_length-le}
use lib.Seq.{length-take-le, take_all, take-take, take-append-le, take_at, drop_at, take-set-lt, drop-set-lt}
use Rattle.slots.specs.Slots.{between}

-- the tail from `at` on as it is lent, and the whole as it comes back with ys in its place

abbrev pub lent : ℕ → List ℕ → List ℕ
lent at w = take (length w - at) (drop at w)

abbrev pub returned : ℕ → List ℕ → List ℕ → List ℕ
returned at w ys = take at w ++ (ys ++ drop (length w - at) (drop at w))

module _ (w : List ℕ) (at : ℕ) (h : at ≤ length w) where
  pub lent_is : lent at w ≡ drop at w
  lent_is = take_all (length w - at) (drop at w) (omega (arith, length-drop at w))

  pub lent_length : length (lent at w) ≡ length w - at
  lent_length = ap length lent_is ∙ length-drop at w

  pub returned-is : (ys : List ℕ) → returned at w ys ≡ take at w ++ ys
  returned-is ys = rw (drop_of_length-le (drop at w) {i = length w - at} (omega (arith, length-drop at w)), append-nil ys)

  module _ (ys : List ℕ) where
    pub take_put : (s : ℕ) → s ≤ at → take s (take at w ++ ys) ≡ take s w
    take_put s k = take-append-le s (take at w) ys (omega (arith, length-take-le at w h)) ∙ take-take s at w k

    pub drop-put : drop at (take at w ++ ys) ≡ ys
    drop-put = drop_at (take at w) ys at (length-take-le at w h)

    pub between_put : (s : ℕ) → between s at (take at w ++ ys) ≡ between s at w
    unfolding between
    between_put s = ap (drop s) (take_at (take at w) ys at (length-take-le at w h))

    pub length-put : length ys ≡ length (drop at w) → length (take at w ++ ys) ≡ length w
    length-put e = omega (arith, length-append (take at w) ys, length-take-le at w h, length-drop at w)

-- a word stored before the tail
module _ (w : List ℕ) (s at b x : ℕ) (h : b < s) (k : s ≤ at) where
  pub take-store : take s (set w b x) ≡ set (take s w) b x
  take-store = take-set-lt s w b x h

  pub drop-store : drop at (set w b x) ≡ drop at w
  drop-store = drop-set-lt at w b x (omega arith)

  pub between-store : between s at (set w b x) ≡ between s at w
  unfolding between
  between-store = ap (drop s) (take-set-lt at w b x (omega arith)) ∙ drop-set-lt s (take at w) b x h

-- the three parts
pub parts : (w : List ℕ) (s at : ℕ) → s ≤ at → w ≡ take s w ++ (between s at w ++ drop at w)
unfolding between
parts w s at k =
    sym (rw (← append_assoc (take s w) (drop s (take at w)) (drop at w), ← take-take s at w k, take-append-drop s (take at w)) (take-append-drop at w))
