-- The walk's list is the least set: each member once, and nothing else.
use mathlib.Core.Path.{◌≡◌, refl, sym, ap, ◌∙◌}
use mathlib.Core.Bool.{Bool, true, false, ◌||◌, true≢false, or-true}
use mathlib.Core.Logic.{◌⊎◌, ◌↔◌, inl, inr, ⊎_map, ⊎_elim}
use mathlib.Core.List.Memᴰ
use mathlib.Core.List.{List, [], ◌∷◌, ◌++◌, Memᴰ, append-nil, append_assoc}
use mathlib.Core.Option.{Option, none, some}
use Prim.Native.Nat.{ℕ, zero, suc, ◌+◌, ◌≤◌, ◌<◌, zero-le, suc-le-suc}
use native.Mathlib.Nat.{le_of_suc-le-suc, not-suc-le-zero, le_antisymm, le_trans, eq-or-lt_of_le}
use native.Mathlib.Omega.{arith}
use lib.ListN.{length, get_elem?}
use Rattle.model.specs.Reach.{Least, begin, next, NoDup, Exact, mem, add, enter, walk, closure}

module _ {A : Type 0} where
  -- the least set of a start and a step that are lists
  abbrev pub LeastBy : (A → List A) → List A → A → Type 0
  LeastBy step start = Least (λ x. Memᴰ x start) (λ x y. Memᴰ y (step x))

  abbrev pub ExactBy : (A → List A) → List A → List A → Type 0
  ExactBy step start = Exact (λ x. Memᴰ x start) (λ x y. Memᴰ y (step x))

  -- every set that has the start and is closed under the step contains the least one
  pub least-in-each : {S : A → Type 0} {L : A → A → Type 0} (P : A → Type 0) → ((x : A) → S x → P x) → ((x y : A) → P x → L x y → P y) → (x : A) → Least S L x → P x
  least-in-each P b c x (begin m) = b x m
  least-in-each P b c x (next {x = w} p m) = c w x (least-in-each P b c w p) m

  -- where starts and steps agree, so do the least sets
  pub least-map : {S S' : A → Type 0} {L L' : A → A → Type 0} → ((x : A) → S x → S' x) → ((x y : A) → L x y → L' x y) → {x : A} → Least S L x → Least S' L' x
  least-map f g (begin {x = x} m) = begin (f x m)
  least-map f g (next {x = x} {y = y} p m) = next (least-map f g p) (g x y m)

  pub exact-map : {S S' : A → Type 0} {L L' : A → A → Type 0} → ((x : A) → S x ↔ S' x) → ((x y : A) → L x y ↔ L' x y) → {l : List A} → Exact S L l → Exact S' L' l
  exact-map f g e = record {
    once = e.once;
    sound = λ x m. least-map (λ y. (f y).0) (λ y z. (g y z).0) (e.sound x m);
    complete = λ x m. e.complete x (least-map (λ y. (f y).1) (λ y z. (g y z).1) m);
  }

  -- places in a list

  at_lt : (l : List A) (j : ℕ) {x : A} → get_elem? l j ≡ some x → j < length l
  at_lt [] j e = let z : ◌≡◌ {A = ℕ} 0 1 = cc in absurd (omega arith)
  at_lt (a ∷ l) zero e = suc-le-suc zero-le
  at_lt (a ∷ l) (suc j) e = suc-le-suc (at_lt l j e)

  at_none : (l : List A) (j : ℕ) → get_elem? l j ≡ none → length l ≤ j
  at_none [] j e = zero-le
  at_none (a ∷ l) zero e = let z : ◌≡◌ {A = ℕ} 0 1 = cc in absurd (omega arith)
  at_none (a ∷ l) (suc j) e = suc-le-suc (at_none l j e)

  at_mem : (l : List A) (j : ℕ) {x : A} → get_elem? l j ≡ some x → Memᴰ x l
  at_mem [] j e = let z : ◌≡◌ {A = ℕ} 0 1 = cc in absurd (omega arith)
  at_mem (a ∷ l) zero {x} e = Memᴰ.head {x = a} (cc)
  at_mem (a ∷ l) (suc j) e = Memᴰ.tail (at_mem l j e)

  at_front : (l t : List A) (j : ℕ) → j < length l → get_elem? (l ++ t) j ≡ get_elem? l j
  at_front [] t j h = absurd (not-suc-le-zero h)
  at_front (a ∷ l) t zero h = refl
  at_front (a ∷ l) t (suc j) h = at_front l t j (le_of_suc-le-suc h)

  mem-at : {x : A} {l : List A} → Memᴰ x l → (j : ℕ) × (get_elem? l j ≡ some x)
  mem-at (Memᴰ.head e) = (zero, ap some (sym e))
  mem-at (Memᴰ.tail m) = let r = mem-at m in (suc r.0, r.1)

  -- subsets, and a list without duplicates in another

  abbrev pub Sub : List A → List A → Type 0
  Sub s t = (x : A) → Memᴰ x s → Memᴰ x t

  without : {x : A} {l : List A} → Memᴰ x l → List A
  without (Memᴰ.head {xs = xs} e) = xs
  without (Memᴰ.tail {x = y} m) = y ∷ without m

  without-length : {x : A} {l : List A} (m : Memᴰ x l) → length l ≡ suc (length (without m))
  unfolding without
  without-length (Memᴰ.head e) = refl
  without-length (Memᴰ.tail m) = ap suc (without-length m)

  without-mem : {x y : A} {l : List A} (m : Memᴰ x l) → Memᴰ y l → (y ≡ x) ⊎ Memᴰ y (without m)
  unfolding without
  without-mem (Memᴰ.head e) n = ⊎_map (λ d. d ∙ sym e) (λ k. k) (Memᴰ.cases_cons n)
  without-mem {x} {y} (Memᴰ.tail {x = z} {xs = xs} m) n = go (without-mem m) (Memᴰ.cases_cons n)
    where
      go : ((k : Memᴰ y xs) → (y ≡ x) ⊎ Memᴰ y (without m)) → (y ≡ z) ⊎ Memᴰ y xs → (y ≡ x) ⊎ Memᴰ y (z ∷ without m)
      go f (inl e) = inr (Memᴰ.head e)
      go f (inr k) = ⊎_map (λ e. e) Memᴰ.tail (f k)

  -- the pigeonhole
  pub fits : (l u : List A) → NoDup l → Sub l u → length l ≤ length u
  fits [] u d s = zero-le
  fits (x ∷ l) u d s =
      let m = s x (Memᴰ.head refl) in
      rw (without-length m) (suc-le-suc (fits l (without m) d.1 (λ y n. stays y n (without-mem m (s y (Memᴰ.tail n))))))
    where
      stays : (y : A) → Memᴰ y l → (y ≡ x) ⊎ Memᴰ y (without (s x (Memᴰ.head refl))) → Memᴰ y (without (s x (Memᴰ.head refl)))
      stays y n (inl e) = absurd (d.0 (Memᴰ.cast (sym e) n))
      stays y n (inr k) = k

  NoDup-snoc : (l : List A) (x : A) → NoDup l → (Memᴰ x l → ⊥) → NoDup (l ++ x ∷ [])
  NoDup-snoc [] x d n = (Memᴰ.not-nil, tt)
  NoDup-snoc (y ∷ l) x d n = (λ m. apart (Memᴰ.append_cases l m), NoDup-snoc l x d.1 (λ m. n (Memᴰ.tail m)))
    where
      apart : Memᴰ y l ⊎ Memᴰ y (x ∷ []) → ⊥
      apart (inl m) = d.0 m
      apart (inr m) = n (Memᴰ.head (sym (Memᴰ.eq_of_singleton m)))

-- a test that says whether two pointers are equal
module _ {A : Type 0} (same : A → A → Bool) (same-eq : (x y : A) → same x y ≡ true → x ≡ y) (same_refl : (x : A) → same x x ≡ true) where
  pub mem-true : (x : A) (l : List A) → mem same x l ≡ true → Memᴰ x l
  unfolding mem
  mem-true x [] e = absurd (true≢false (sym e))
  mem-true x (y ∷ l) e = go (same x y) (same-eq x y) (mem-true x l) e
    where
      go : (b : Bool) → (b ≡ true → x ≡ y) → (mem same x l ≡ true → Memᴰ x l) → (b || mem same x l) ≡ true → Memᴰ x (y ∷ l)
      go true p f q = Memᴰ.head (p refl)
      go false p f q = Memᴰ.tail (f q)

  pub mem-has : (x : A) (l : List A) → Memᴰ x l → mem same x l ≡ true
  unfolding mem
  mem-has x l (Memᴰ.head {x = y} {xs = xs} e) = rw (← e, same_refl)
  mem-has x l (Memᴰ.tail {x = y} {xs = xs} m) = rw (mem-has x xs m, or-true)

  -- what entering does to a list: it grows at its end, by the new ones, each once
  record Grown (l xs r : List A) : Type 0 where
    more : List A
    grows : r ≡ l ++ more
    has : Sub xs r
    only : (x : A) → Memᴰ x r → Memᴰ x l ⊎ Memᴰ x xs
    once : NoDup l → NoDup r

  Grown-trans : {l m r xs ys : List A} → Grown l xs m → Grown m ys r → Grown l (xs ++ ys) r
  Grown-trans {l} {m} {r} {xs} {ys} g k = record {
    more = g.more ++ k.more;
    grows = k.grows ∙ ap (λ (t : List A). t ++ k.more) g.grows ∙ append_assoc l g.more k.more;
    has = λ x n. either x (Memᴰ.append_cases xs n);
    only = λ x n. ⊎_elim (λ p. ⊎_map (λ q. q) (Memᴰ.append_left ys) (g.only x p)) (λ p. inr (Memᴰ.append_right xs p)) (k.only x n);
    once = λ d. k.once (g.once d);
  }
    where
      either : (x : A) → Memᴰ x xs ⊎ Memᴰ x ys → Memᴰ x r
      either x (inl n) = rw k.grows (Memᴰ.append_left k.more (g.has x n))
      either x (inr n) = k.has x n

  add-grown : (l : List A) (x : A) → Grown l (x ∷ []) (add same l x)
  unfolding add
  add-grown l x = go (mem same x l) (mem-true x l) (mem-has x l)
    where
      go : (b : Bool) → (b ≡ true → Memᴰ x l) → (Memᴰ x l → b ≡ true) → Grown l (x ∷ []) (elim b [ true ↦ l | false ↦ l ++ x ∷ [] ])
      go true f g = record {
        more = [];
        grows = sym (append-nil l);
        has = λ y m. Memᴰ.cast (Memᴰ.eq_of_singleton m) (f refl);
        only = λ y m. inl m;
        once = λ d. d;
      }
      go false f g = record {
        more = x ∷ [];
        grows = refl;
        has = λ y m. Memᴰ.append_right l m;
        only = λ y m. Memᴰ.append_cases l m;
        once = λ d. NoDup-snoc l x d (λ m. true≢false (sym (g m)));
      }

  enter-grown : (l xs : List A) → Grown l xs (enter same l xs)
  unfolding enter
  enter-grown l [] = record { more = []; grows = sym (append-nil l); has = λ x m. absurd (Memᴰ.not-nil m); only = λ x m. inl m; once = λ d. d }
  enter-grown l (x ∷ xs) = Grown-trans (add-grown l x) (enter-grown (add same l x) xs)

  module _ (step : A → List A) (start : List A) where
    -- the least set lies in each list that has the start and every step
    pub least-in : (u : List A) → Sub start u → ((x : A) → Sub (step x) u) → (x : A) → LeastBy step start x → Memᴰ x u
    least-in u b s x (begin m) = b x m
    least-in u b s x (next {x = w} p m) = s w x m

    -- the walk has come to place i
    record Come (i : ℕ) (l : List A) : Type 0 where
      once : NoDup l
      sound : (x : A) → Memᴰ x l → LeastBy step start x
      begun : Sub start l
      closed : (j : ℕ) (x : A) → j < i → get_elem? l j ≡ some x → Sub (step x) l

    -- and to the end
    come-exact : (i : ℕ) (l : List A) → Come i l → length l ≤ i → ExactBy step start l
    come-exact i l c h = record { once = c.once; sound = c.sound; complete = all }
      where
        all : (x : A) → LeastBy step start x → Memᴰ x l
        all x (begin m) = c.begun x m
        all x (next {x = w} p m) = let a = mem-at (all w p) in c.closed a.0 w (le_trans (at_lt l a.0 a.1) h) a.1 x m

    come-next : (i : ℕ) (l : List A) (x : A) → Come i l → get_elem? l i ≡ some x → Come (suc i) (enter same l (step x))
    come-next i l x c e = record {
      once = g.once c.once;
      sound = λ y m. ⊎_elim (c.sound y) (λ n. next (c.sound x (at_mem l i e)) n) (g.only y m);
      begun = λ y m. old y (c.begun y m);
      closed = λ j y h a. led j y (front j y h a) (eq-or-lt_of_le (le_of_suc-le-suc h));
    }
      where
        g : Grown l (step x) (enter same l (step x))
        g = enter-grown l (step x)

        old : Sub l (enter same l (step x))
        old y m = rw g.grows (Memᴰ.append_left g.more m)

        front : (j : ℕ) (y : A) → j < suc i → get_elem? (enter same l (step x)) j ≡ some y → get_elem? l j ≡ some y
        front j y h a = sym (at_front l g.more j (le_trans h (at_lt l i e))) ∙ (rw g.grows at a)

        led : (j : ℕ) (y : A) → get_elem? l j ≡ some y → (j ≡ i) ⊎ (j < i) → Sub (step y) (enter same l (step x))
        led j y a (inl p) = let q : y ≡ x = cc in rw q g.has
        led j y a (inr h) = λ z m. old z (c.closed j y h a z m)

    module _ (u : List A) (start-in : Sub start u) (step_in : (x : A) → Sub (step x) u) where
      come-fits : (i : ℕ) (l : List A) → Come i l → length l ≤ length u
      come-fits i l c = fits l u c.once (λ x m. least-in u start-in step_in x (c.sound x m))

      walk-exact : (k i : ℕ) (l : List A) → Come i l → length u ≤ k + i → ExactBy step start (walk same step k i l)
      unfolding walk
      walk-exact zero i l c h = come-exact i l c (omega (arith, come-fits i l c))
      walk-exact (suc k) i l c h = go (walk-exact k) (get_elem? l i) refl
        where
          go : ((j : ℕ) (m : List A) → Come j m → length u ≤ k + j → ExactBy step start (walk same step k j m)) → (o : Option A) → get_elem? l i ≡ o → ExactBy step start (elim o [ none ↦ l | some x ↦ walk same step k (suc i) (enter same l (step x)) ])
          go f none e = come-exact i l c (at_none l i e)
          go f (some x) e = f (suc i) (enter same l (step x)) (come-next i l x c e) (omega arith)

      -- with fuel for every pointer that can come up, the closure is the least set
      pub closure-exact : (k : ℕ) → length u ≤ k → ExactBy step start (closure same step k start)
      unfolding closure
      closure-exact k h = walk-exact k 0 (enter same [] start) begun (omega arith)
        where
          g : Grown [] start (enter same [] start)
          g = enter-grown [] start

          begun : Come 0 (enter same [] start)
          begun = record {
            once = g.once tt;
            sound = λ x m. ⊎_elim (λ n. absurd (Memᴰ.not-nil n)) begin (g.only x m);
            begun = g.has;
            closed = λ j x h e. absurd (not-suc-le-zero h);
          }

      pub exact-fits : (l : List A) → ExactBy step start l → length l ≤ length u
      exact-fits l x = fits l u x.once (λ y m. least-in u start-in step_in y (x.sound y m))

    -- the size of the least set is one number
    pub exact-size : (l r : List A) → ExactBy step start l → ExactBy step start r → length l ≡ length r
    exact-size l r a b = le_antisymm (fits l r a.once (λ x m. b.complete x (a.sound x m))) (fits r l b.once (λ x m. a.complete x (b.sound x m)))
