-- Lists of numbers and of cells: the few functions that the library does not have.
use Rattle.std.specs.Prelude.{Bool, true, false, ◌&&◌, List, [], ◌∷◌, ◌++◌, ℕ, suc, ◌+◌, ltb, leb}

module _ {A : Type 0} where
  abbrev pub cons_if : Bool → A → List A → List A
  cons_if true x xs = x ∷ xs
  cons_if false x xs = xs

  abbrev pub only_if : Bool → List A → List A
  only_if true xs = xs
  only_if false xs = []

  -- those that pass a test
  unfoldable pub keep_if : (A → Bool) → List A → List A
  keep_if f [] = []
  keep_if f (x ∷ xs) = cons_if (f x) x (keep_if f xs)

  unfoldable pub flat : List (List A) → List A
  flat [] = []
  flat (s ∷ ss) = s ++ flat ss

-- the places, from i on, with a number above zero
unfoldable pub places : ℕ → List ℕ → List ℕ
places i [] = []
places i (x ∷ xs) = cons_if (ltb 0 x) i (places (suc i) xs)

unfoldable pub sum : List ℕ → ℕ
sum [] = 0
sum (x ∷ xs) = x + sum xs

-- each is at most m
unfoldable pub all_at_most : ℕ → List ℕ → Bool
all_at_most m [] = true
all_at_most m (x ∷ xs) = leb x m && all_at_most m xs
