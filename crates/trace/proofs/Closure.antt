-- Entering and walking: the list only grows, and fuel beyond its length changes nothing.
use mathlib.Core.Path.{◌≡◌, refl, sym, ap, ◌∙◌}
use mathlib.Core.Bool.{Bool, true, false}
use mathlib.Core.List.{List, [], ◌∷◌, ◌++◌}
use mathlib.Core.Option.{Option, none, some}
use Prim.Native.Nat.{ℕ, zero, suc, ◌+◌, ◌≤◌}
use native.Mathlib.Nat.{suc-add, le_of_suc-le-suc, not-suc-le-zero}
use native.Mathlib.Omega.{arith}
use lib.ListN.{length, get_elem?, length-append}
use Rattle.model.specs.Reach.{mem, add, enter, walk}

module _ {A : Type 0} where
  elem-none : (l : List A) (i : ℕ) → length l ≤ i → get_elem? l i ≡ none
  elem-none [] i h = refl
  elem-none (x ∷ l) zero h = absurd (not-suc-le-zero h)
  elem-none (x ∷ l) (suc i) h = elem-none l i (le_of_suc-le-suc h)

module _ {A : Type 0} (same : A → A → Bool) where
  pub add-old : (l : List A) (x : A) → mem same x l ≡ true → add same l x ≡ l
  unfolding add
  add-old l x e = rw (e, add)

  pub add-new : (l : List A) (x : A) → mem same x l ≡ false → add same l x ≡ l ++ x ∷ []
  unfolding add
  add-new l x e = rw (e, add)

  -- the list only grows, and by at most one for each that is entered

  pub add-sized : (l : List A) (x : A) → (length l ≤ length (add same l x)) × (length (add same l x) ≤ length l + 1)
  add-sized l x = go (mem same x l) refl
    where
      go : (t : Bool) → mem same x l ≡ t → (length l ≤ length (add same l x)) × (length (add same l x) ≤ length l + 1)
      go true e = rw (add-old l x e) (omega arith)
      go false e = rw (add-new l x e, length-append) (omega arith)

  pub enter-grows : (l xs : List A) → length l ≤ length (enter same l xs)
  unfolding enter
  enter-grows l [] = omega arith
  enter-grows l (x ∷ xs) = omega (arith, (add-sized l x).0, enter-grows (add same l x) xs)

  pub enter-few : (l xs : List A) → length (enter same l xs) ≤ length l + length xs
  unfolding enter
  enter-few l [] = omega arith
  enter-few l (x ∷ xs) = omega (arith, (add-sized l x).1, enter-few (add same l x) xs)

  pub enter-append : (l xs ys : List A) → enter same l (xs ++ ys) ≡ enter same (enter same l xs) ys
  unfolding enter
  enter-append l [] ys = refl
  enter-append l (x ∷ xs) ys = enter-append (add same l x) xs ys

  module _ (step : A → List A) where
    walk-stuck : (k i : ℕ) (l : List A) → get_elem? l i ≡ none → walk same step (suc k) i l ≡ l
    unfolding walk
    walk-stuck k i l e = rw (e, walk)

    pub walk-next : (k i : ℕ) (l : List A) (x : A) → get_elem? l i ≡ some x → walk same step (suc k) i l ≡ walk same step k (suc i) (enter same l (step x))
    unfolding walk
    walk-next k i l x e = rw (e, walk)

    pub walk_end : (k i : ℕ) (l : List A) → length l ≤ i → walk same step k i l ≡ l
    unfolding walk
    walk_end zero i l h = refl
    walk_end (suc k) i l h = walk-stuck k i l (elem-none l i h)

    pub walk-grows : (k i : ℕ) (l : List A) → length l ≤ length (walk same step k i l)
    unfolding walk
    walk-grows zero i l = omega arith
    walk-grows (suc k) i l = go (walk-grows k) (get_elem? l i) refl
      where
        go : ((j : ℕ) (m : List A) → length m ≤ length (walk same step k j m)) → (o : Option A) → get_elem? l i ≡ o → length l ≤ length (walk same step (suc k) i l)
        go f none e = rw (walk-stuck k i l e) (omega arith)
        go f (some x) e = rw (walk-next k i l x e) (omega (arith, enter-grows l (step x), f (suc i) (enter same l (step x))))

    -- once there is fuel for every entry, more of it changes nothing
    pub walk_more : (k j i : ℕ) (l : List A) → length (walk same step k i l) ≤ k + i → walk same step (k + j) i l ≡ walk same step k i l
    unfolding walk
    walk_more zero j i l h = walk_end (0 + j) i l (omega arith)
    walk_more (suc k) j i l h = rw suc-add (go (walk_more k j) (get_elem? l i) refl)
      where
        go : ((i : ℕ) (m : List A) → length (walk same step k i m) ≤ k + i → walk same step (k + j) i m ≡ walk same step k i m) → (o : Option A) → get_elem? l i ≡ o
            → walk same step (suc (k + j)) i l ≡ walk same step (suc k) i l
        go f none e = walk-stuck (k + j) i l e ∙ sym (walk-stuck k i l e)
        go f (some x) e =
            walk-next (k + j) i l x e
            ∙ f (suc i) (enter same l (step x)) (omega (arith, ap length (walk-next k i l x e)))
            ∙ sym (walk-next k i l x e)
