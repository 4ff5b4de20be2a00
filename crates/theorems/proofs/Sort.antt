-- Sorting keeps the members, keeps each once, and puts them in order.
use mathlib.Core.Path.{◌≡◌, refl, sym, ◌∙◌}
use mathlib.Core.Bool.{Bool, true, false, ◌&&◌, ◌||◌, true≢false}
use mathlib.Core.Logic.{inl, inr, ⊎_elim}
use mathlib.Core.List.Memᴰ
use mathlib.Core.List.{List, [], ◌∷◌, Memᴰ}
use Rattle.model.specs.Lists.{cons_if, keep_if}
use Rattle.model.specs.Reach.{NoDup}
use native.Mathlib.Omega.{arith}
use lib.Dec.{eqb, leb, ltb}
use Rattle.model.specs.Records.{Ptr, biased}
use Rattle.model.specs.Demand.{Before, Sorted}
use Rattle.model.specs.Nursery.{before, insert, sort}
use Rattle.theorems.proofs.Reach.{Sub}
use borrow.Author.Tests.{eqb-true, ltb-true, leb-true, eqb-false, ltb-false, leb-false}
use Rattle.theorems.proofs.Lists.{keep_if-out}

insert-in : (p : Ptr) (l : List Ptr) → Sub (p ∷ l) (insert p l)
unfolding insert
insert-in p [] x m = m
insert-in p (q ∷ l) x m = go (before p q) (insert-in p l x)
  where
    go : (t : Bool) → (Memᴰ x (p ∷ l) → Memᴰ x (insert p l)) → Memᴰ x (elim t [ true ↦ p ∷ q ∷ l | false ↦ q ∷ insert p l ])
    go true f = m
    go false f = ⊎_elim (λ e. Memᴰ.tail (f (Memᴰ.head e))) (λ n. ⊎_elim (λ e. Memᴰ.head e) (λ k. Memᴰ.tail (f (Memᴰ.tail k))) (Memᴰ.cases_cons n)) (Memᴰ.cases_cons m)

insert-out : (p : Ptr) (l : List Ptr) → Sub (insert p l) (p ∷ l)
unfolding insert
insert-out p [] x m = m
insert-out p (q ∷ l) x m = go (before p q) (insert-out p l x) m
  where
    go : (t : Bool) → (Memᴰ x (insert p l) → Memᴰ x (p ∷ l)) → Memᴰ x (elim t [ true ↦ p ∷ q ∷ l | false ↦ q ∷ insert p l ]) → Memᴰ x (p ∷ q ∷ l)
    go true f k = k
    go false f k = ⊎_elim (λ e. Memᴰ.tail (Memᴰ.head e)) (λ n. ⊎_elim (λ e. Memᴰ.head e) (λ j. Memᴰ.tail (Memᴰ.tail j)) (Memᴰ.cases_cons (f n))) (Memᴰ.cases_cons k)

pub sort-in : (l : List Ptr) → Sub l (sort l)
unfolding sort
sort-in [] x m = m
sort-in (p ∷ l) x m = insert-in p (sort l) x (⊎_elim (λ e. Memᴰ.head e) (λ n. Memᴰ.tail (sort-in l x n)) (Memᴰ.cases_cons m))

pub sort-out : (l : List Ptr) → Sub (sort l) l
unfolding sort
sort-out [] x m = m
sort-out (p ∷ l) x m = ⊎_elim (λ e. Memᴰ.head e) (λ n. Memᴰ.tail (sort-out l x n)) (Memᴰ.cases_cons (insert-out p (sort l) x m))

insert-once : (p : Ptr) (l : List Ptr) → (Memᴰ p l → ⊥) → NoDup l → NoDup (insert p l)
unfolding insert
insert-once p [] n d = (n, d)
insert-once p (q ∷ l) n d = go (before p q) (insert-once p l (λ m. n (Memᴰ.tail m)) d.1)
  where
    go : (t : Bool) → NoDup (insert p l) → NoDup {A = Ptr} (elim t [ true ↦ p ∷ q ∷ l | false ↦ q ∷ insert p l ])
    go true f = (n, d)
    go false f = (λ m. ⊎_elim (λ e. n (Memᴰ.head (sym e))) d.0 (Memᴰ.cases_cons (insert-out p l q m)), f)

pub sort-once : (l : List Ptr) → NoDup l → NoDup (sort l)
unfolding sort
sort-once [] d = d
sort-once (p ∷ l) d = insert-once p (sort l) (λ m. d.0 (sort-out l p m)) (sort-once l d.1)

pub keep_if-once : (f : Ptr → Bool) (l : List Ptr) → NoDup l → NoDup (keep_if f l)
unfolding keep_if
keep_if-once f [] d = d
keep_if-once f (p ∷ l) d = go (f p) (keep_if-once f l d.1)
  where
    go : (t : Bool) → NoDup (keep_if f l) → NoDup (cons_if t p (keep_if f l))
    go true k = (λ m. d.0 (keep_if-out f l m).0, k)
    go false k = k

-- in order

before-yes : (p q : Ptr) → before p q ≡ true → Before p q
unfolding before
before-yes p q = go (ltb p.base q.base) refl (eqb p.base q.base) refl
  where
    go : (a : Bool) → ltb p.base q.base ≡ a → (b : Bool) → eqb p.base q.base ≡ b → (a || b && leb (biased p.off) (biased q.off)) ≡ true → Before p q
    go true x b y e = inl (ltb-true p.base q.base x)
    go false x true y e = inr (eqb-true p.base q.base y, leb-true (biased p.off) (biased q.off) e)
    go false x false y e = absurd (true≢false (sym e))

before-no : (p q : Ptr) → before p q ≡ false → Before q p
unfolding before
before-no p q = go (ltb p.base q.base) refl (eqb p.base q.base) refl
  where
    go : (a : Bool) → ltb p.base q.base ≡ a → (b : Bool) → eqb p.base q.base ≡ b → (a || b && leb (biased p.off) (biased q.off)) ≡ false → Before q p
    go true x b y e = absurd (true≢false e)
    go false x true y e = let l = leb-false (biased p.off) (biased q.off) e in inr (sym (eqb-true p.base q.base y), omega arith)
    go false x false y e =
        let l = ltb-false p.base q.base x in
        let n = eqb-false p.base q.base y in
        inl (omega arith)

before-trans : (p q r : Ptr) → Before p q → Before q r → Before p r
before-trans p q r (inl a) (inl b) = inl (omega arith)
before-trans p q r (inl a) (inr b) = inl (omega (arith, b.0))
before-trans p q r (inr a) (inl b) = inl (omega (arith, a.0))
before-trans p q r (inr a) (inr b) = inr (a.0 ∙ b.0, omega (arith, a.1, b.1))

insert-sorted : (p : Ptr) (l : List Ptr) → Sorted l → Sorted (insert p l)
unfolding insert
insert-sorted p [] s = (λ q m. absurd (Memᴰ.not-nil m), tt)
insert-sorted p (q ∷ l) s = go (before p q) refl (insert-sorted p l s.1)
  where
    go : (t : Bool) → before p q ≡ t → Sorted (insert p l) → Sorted (elim t [ true ↦ p ∷ q ∷ l | false ↦ q ∷ insert p l ])
    go true e i = (λ x m. ⊎_elim (λ k. rw k (before-yes p q e)) (λ n. before-trans p q x (before-yes p q e) (s.0 x n)) (Memᴰ.cases_cons m), s)
    go false e i = (λ x m. ⊎_elim (λ k. rw k (before-no p q e)) (s.0 x) (Memᴰ.cases_cons (insert-out p l x m)), i)

pub sort_sorted : (l : List Ptr) → Sorted (sort l)
unfolding sort
sort_sorted [] = tt
sort_sorted (p ∷ l) = insert-sorted p (sort l) (sort_sorted l)
