-- Laws of tests and of the lists of specs/Lists.antt.
use mathlib.Core.Path.{◌≡◌, refl, sym, ap, ◌∙◌}
use mathlib.Core.Bool.{Bool, true, false, ◌&&◌, true≢false}
use mathlib.Core.Logic.{⊎_elim}
use mathlib.Core.List.Memᴰ
use mathlib.Core.List.{List, [], ◌∷◌, Memᴰ}
use Prim.Native.Nat.{ℕ, zero, suc, ◌+◌, ◌≤◌, ◌<◌, zero-le, suc-le-suc}
use native.Mathlib.Nat.{le_step, not-suc-le-zero, add-zero}
use native.Mathlib.Omega.{arith}
use lib.Dec.{eqb, ltb}
use borrow.Author.Tests.{eq-eqb, ltb-true, lt-ltb}
use lib.ListN.{length, get_or, take, drop, take-append-drop, replicate}
use Rattle.model.specs.Lists.{cons_if, keep_if, flat, places}
use Rattle.theorems.proofs.Reach.{Sub}

-- tests

pub and_left : (a b : Bool) → (a && b) ≡ true → a ≡ true
and_left true b e = refl
and_left false b e = e

pub and_right : (a b : Bool) → (a && b) ≡ true → b ≡ true
and_right true b e = e
and_right false b e = absurd (true≢false (sym e))

pub and_parts : (a b : Bool) → (a && b) ≡ true → (a ≡ true) × (b ≡ true)
and_parts a b e = (and_left a b e, and_right a b e)

pub and_both : (a b : Bool) → a ≡ true → b ≡ true → (a && b) ≡ true
and_both a b p q = rw (p, q)

pub eqb_same : (n : ℕ) → eqb n n ≡ true
eqb_same n = eq-eqb n n refl

module _ {A : Type 0} where
  -- those that pass a test

  pub keep_if-length : (f : A → Bool) (l : List A) → length (keep_if f l) ≤ length l
  unfolding keep_if
  keep_if-length f [] = zero-le
  keep_if-length f (x ∷ l) = go (f x) (keep_if-length f l)
    where
      go : (b : Bool) → length (keep_if f l) ≤ length l → length (cons_if b x (keep_if f l)) ≤ suc (length l)
      go true h = suc-le-suc h
      go false h = le_step h

  pub keep_if-in : (f : A → Bool) {x : A} {l : List A} → Memᴰ x l → f x ≡ true → Memᴰ x (keep_if f l)
  unfolding keep_if
  keep_if-in f {x} (Memᴰ.head {x = y} {xs = l} e) h = let p : f y ≡ true = ap f (sym e) ∙ h in rw p (Memᴰ.head e)
  keep_if-in f {x} (Memᴰ.tail {x = y} {xs = l} m) h = go (f y) (keep_if-in f m h)
    where
      go : (b : Bool) → Memᴰ x (keep_if f l) → Memᴰ x (cons_if b y (keep_if f l))
      go true k = Memᴰ.tail k
      go false k = k

  pub keep_if-out : (f : A → Bool) {x : A} (l : List A) → Memᴰ x (keep_if f l) → Memᴰ x l × (f x ≡ true)
  unfolding keep_if
  keep_if-out f [] m = absurd (Memᴰ.not-nil m)
  keep_if-out f {x} (y ∷ l) m = go (f y) refl (keep_if-out f l) m
    where
      go : (b : Bool) → f y ≡ b → (Memᴰ x (keep_if f l) → Memᴰ x l × (f x ≡ true)) → Memᴰ x (cons_if b y (keep_if f l)) → Memᴰ x (y ∷ l) × (f x ≡ true)
      go true e ih k = ⊎_elim (λ p. (Memᴰ.head p, ap f p ∙ e)) (λ n. (Memᴰ.tail (ih n).0, (ih n).1)) (Memᴰ.cases_cons k)
      go false e ih k = (Memᴰ.tail (ih k).0, (ih k).1)

  -- parts

  pub take_in : (n : ℕ) (l : List A) → Sub (take n l) l
  take_in n l x m = rw (take-append-drop n l) at (Memᴰ.append_left (drop n l) m)

  pub drop-in : (n : ℕ) (l : List A) → Sub (drop n l) l
  drop-in n l x m = rw (take-append-drop n l) at (Memᴰ.append_right (take n l) m)

  pub flat_in : (ss : List (List A)) (b : ℕ) → Sub (get_or ss b []) (flat ss)
  unfolding flat
  flat_in [] b x m = absurd (Memᴰ.not-nil m)
  flat_in (s ∷ ss) zero x m = Memᴰ.append_left (flat ss) m
  flat_in (s ∷ ss) (suc b) x m = Memᴰ.append_right s (flat_in ss b x m)

pub flat-empty : {A : Type 0} (n : ℕ) → flat {A = A} (replicate n []) ≡ []
unfolding flat
flat-empty zero = refl
flat-empty (suc n) = flat-empty n

pub places-length : (xs : List ℕ) (i : ℕ) → length (places i xs) ≤ length xs
unfolding places
places-length [] i = zero-le
places-length (x ∷ xs) i = go (ltb 0 x) (places-length xs (suc i))
  where
    go : (b : Bool) → length (places (suc i) xs) ≤ length xs → length (cons_if b i (places (suc i) xs)) ≤ suc (length xs)
    go true h = suc-le-suc h
    go false h = le_step h

pub places-in : (xs : List ℕ) (i j : ℕ) → 0 < get_or xs j 0 → Memᴰ (i + j) (places i xs)
unfolding places
places-in [] i j h = absurd (not-suc-le-zero h)
places-in (x ∷ xs) i zero h = rw lt-ltb (Memᴰ.head (add-zero i))
places-in (x ∷ xs) i (suc j) h = go (ltb 0 x) (places-in xs (suc i) j h)
  where
    go : (b : Bool) → Memᴰ (suc i + j) (places (suc i) xs) → Memᴰ (i + suc j) (cons_if b i (places (suc i) xs))
    go true m = let e : i + suc j ≡ suc i + j = omega arith in rw e (Memᴰ.tail m)
    go false m = let e : i + suc j ≡ suc i + j = omega arith in rw e m

pub places-out : (xs : List ℕ) (i k : ℕ) → Memᴰ k (places i xs) → (j : ℕ) × (k ≡ i + j) × (0 < get_or xs j 0)
unfolding places
places-out [] i k m = absurd (Memᴰ.not-nil m)
places-out (x ∷ xs) i k m = go (ltb 0 x) refl (λ n. let r = places-out xs (suc i) k n in (suc r.0, omega (arith, r.1), r.2)) m
  where
    Found : Type 0
    Found = (j : ℕ) × (k ≡ i + j) × (0 < get_or (x ∷ xs) j 0)

    go : (b : Bool) → ltb 0 x ≡ b → (Memᴰ k (places (suc i) xs) → Found) → Memᴰ k (cons_if b i (places (suc i) xs)) → Found
    go true e later n = ⊎_elim (λ q. (zero, omega (arith, q), ltb-true 0 x e)) later (Memᴰ.cases_cons n)
    go false e later n = later n
