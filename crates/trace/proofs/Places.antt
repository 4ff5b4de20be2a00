-- What each cell and each length brings to the members: no pointer, or one.
use mathlib.Core.Path.{◌≡◌, refl, sym, ap, ◌∙◌}
use mathlib.Core.Bool.{Bool, true, false}
use mathlib.Core.List.{List, [], ◌∷◌, ◌++◌, map, map-append}
use Prim.Native.Nat.{ℕ, zero, suc, ◌+◌, ◌*◌, ◌%◌, ◌/◌, ◌≤◌, ◌<◌}
use native.Mathlib.Numerals.{add-one}
use native.Mathlib.Nat.{pos_of_ne-zero}
use native.Mathlib.Omega.{arith}
use lib.Dec.{eqb, ltb}
use lib.ListN.{length, get_or, take, drop, drop_of_length-le}
use lib.Seq.{get_or-take, drop-cons}
use borrow.Author.Tests.{eq-eqb, ne_eqb, eqb-true, lt-ltb}
use Rattle.std.specs.Simd.{first_chunks}
use Rattle.model.specs.Lists.{cons_if, keep_if, flat, places}
use Rattle.model.specs.Records.{Ptr, Cell, plain, ref, cell_if, cell_of, cells_of, whole, pointers, in_heap, pointers_to}
use Rattle.model.specs.Barrier.{matches}
use Rattle.model.specs.Nursery.{matched}
use Rattle.model.specs.Calls.{cells_in}
use Rattle.theorems.proofs.Cells.{cells_of-length}
use Rattle.trace.specs.Words.{pointer}

-- a cell's three words

abbrev cell_at : List ℕ → Cell
cell_at w = cell_of (get_or w 0 0) (get_or w 1 0) (get_or w 2 0)

module _ (w : List ℕ) where
  pub root-one : get_or w 0 0 % 256 ≡ 5 → pointers (cells_of 1 w) ≡ pointer (get_or w 0 0 / 256) (get_or w 1 0) (get_or w 2 0) ∷ []
  unfolding cells_of cell_of pointers
  root-one e = rw (eq-eqb (get_or w 0 0 % 256) 5 e)

  pub root_none : (get_or w 0 0 % 256 ≡ 5 → ⊥) → pointers (cells_of 1 w) ≡ []
  unfolding cells_of cell_of pointers
  root_none h = rw (ne_eqb (get_or w 0 0 % 256) 5 h)

  module _ (own : ℕ) where
    pub own-one : get_or w 0 0 ≡ 256 * own + 5 → pointers_to own (cells_of 1 w) ≡ pointer own (get_or w 1 0) (get_or w 2 0) ∷ []
    unfolding pointers_to cells_of cell_of pointers keep_if in_heap
    own-one e =
        let kind : (256 * own + 5) % 256 ≡ 5 = omega arith in
        let heap : (256 * own + 5) / 256 ≡ own = omega arith in
        rw (e, kind, heap, eq-eqb own own refl)

    pub own-none : (get_or w 0 0 ≡ 256 * own + 5 → ⊥) → pointers_to own (cells_of 1 w) ≡ []
    unfolding pointers_to cells_of cell_of pointers keep_if in_heap
    own-none h = go (eqb (get_or w 0 0 % 256) 5) refl
      where
        go : (t : Bool) → eqb (get_or w 0 0 % 256) 5 ≡ t → keep_if (in_heap own) (pointers (cell_if t (get_or w 0 0) (get_or w 1 0) (get_or w 2 0) ∷ [])) ≡ []
        go true e =
            let kind = eqb-true (get_or w 0 0 % 256) 5 e in
            rw (ne_eqb (get_or w 0 0 / 256) own (λ q. h (omega arith)))
        go false e = refl

-- a length n at the base b

module _ (own : ℕ) (ms : List ℕ) (b n : ℕ) where
  pub base-free : n ≡ 0 → matched own ms (places b (n ∷ [])) ≡ []
  unfolding matched places keep_if
  base-free e = rw e

  module _ (h : n ≡ 0 → ⊥) where
    base-is : matched own ms (places b (n ∷ [])) ≡ map (whole own) (cons_if (matches ms b) b [])
    unfolding matched places keep_if
    base-is = rw (lt-ltb 0 n (pos_of_ne-zero h))

    -- r is what `matches` says
    pub base-one : {r : Bool} {p : Ptr} → r ≡ matches ms b → r ≡ true → p ≡ whole own b → matched own ms (places b (n ∷ [])) ≡ p ∷ []
    base-one said e is = base-is ∙ (rw (← said, e, is))

    pub base-none : {r : Bool} → r ≡ matches ms b → r ≡ false → matched own ms (places b (n ∷ [])) ≡ []
    base-none said e = base-is ∙ (rw (← said, e))

-- all of them, one after the other

front : {A : Type 0} (t : Bool) (x : A) (xs : List A) → cons_if t x xs ≡ cons_if t x [] ++ xs
front true x xs = refl
front false x xs = refl

first-cell : (w : List ℕ) → cell_at (take 3 w) ≡ cell_at w
first-cell w = rw (get_or-take 3 w 0 0 (omega arith), get_or-take 3 w 1 0 (omega arith), get_or-take 3 w 2 0 (omega arith))

module _ (g : List Cell → List Ptr) (empty : g [] ≡ []) (cons : (c : Cell) (cs : List Cell) → g (c ∷ cs) ≡ g (c ∷ []) ++ g cs) where
  chunks-flat : (n : ℕ) (w : List ℕ) → g (cells_of n w) ≡ flat (map (λ e. g (cells_of 1 e)) (first_chunks 3 n w))
  unfolding flat cells_of
  chunks-flat zero w = empty
  chunks-flat (suc n) w = cons (cell_at w) (cells_of n (drop 3 w)) ∙ (λ j. g (sym (first-cell w) j ∷ []) ++ chunks-flat n (drop 3 w) j)

pub in-length : (w : List ℕ) → length (cells_in w) ≡ length w / 3
unfolding cells_in
in-length w = cells_of-length (length w / 3) w

pub roots-flat : (w : List ℕ) {es : List (List ℕ)} → es ≡ first_chunks 3 (length w / 3) w → pointers (cells_in w) ≡ flat (map (λ e. pointers (cells_of 1 e)) es)
unfolding cells_in pointers
roots-flat w is = rw is (chunks-flat pointers refl cons (length w / 3) w)
  where
    cons : (c : Cell) (cs : List Cell) → pointers (c ∷ cs) ≡ pointers (c ∷ []) ++ pointers cs
    cons (plain k v) cs = refl
    cons (ref p) cs = refl

pub own-flat : (own n : ℕ) (w : List ℕ) {es : List (List ℕ)} → es ≡ first_chunks 3 n w → pointers_to own (cells_of n w) ≡ flat (map (λ e. pointers_to own (cells_of 1 e)) es)
unfolding pointers_to pointers keep_if
own-flat own n w is = rw is (chunks-flat (pointers_to own) refl cons n w)
  where
    cons : (c : Cell) (cs : List Cell) → pointers_to own (c ∷ cs) ≡ pointers_to own (c ∷ []) ++ pointers_to own cs
    cons (plain k v) cs = refl
    cons (ref p) cs = front (in_heap own p) p (pointers_to own cs)

-- a turn of a loop over the cells, and its end

module _ {A : Type 0} (f : A → List Ptr) (xs : List A) (k : ℕ) where
  pub piece-next : (d : A) → k < length xs → flat (map f (drop k xs)) ≡ f (get_or xs k d) ++ flat (map f (drop (k + 1) xs))
  unfolding flat
  piece-next d h = rw (drop-cons xs k d h, add-one)

  pub piece-none : length xs ≤ k → flat (map f (drop k xs)) ≡ []
  unfolding flat
  piece-none h = rw (drop_of_length-le xs h)

-- the same over the lengths

module _ (own : ℕ) (ms lens : List ℕ) where
  matched-cons : (i x : ℕ) (xs : List ℕ) → matched own ms (places i (x ∷ xs)) ≡ matched own ms (places i (x ∷ [])) ++ matched own ms (places (suc i) xs)
  unfolding matched places keep_if
  matched-cons i x xs = go (ltb 0 x)
    where
      rest : List ℕ
      rest = keep_if (matches ms) (places (suc i) xs)

      go : (t : Bool) → map (whole own) (keep_if (matches ms) (cons_if t i (places (suc i) xs))) ≡ map (whole own) (keep_if (matches ms) (cons_if t i [])) ++ map (whole own) rest
      go true = ap (map (whole own)) (front (matches ms i) i rest) ∙ map-append (whole own) (cons_if (matches ms i) i []) rest
      go false = refl

  pub base-next : (k : ℕ) → k < length lens → matched own ms (places k (drop k lens)) ≡ matched own ms (places k (get_or lens k 0 ∷ [])) ++ matched own ms (places (k + 1) (drop (k + 1) lens))
  base-next k h = rw (drop-cons lens k 0 h, matched-cons, add-one)

  pub base-end : (k : ℕ) → length lens ≤ k → matched own ms (places k (drop k lens)) ≡ []
  unfolding matched places keep_if
  base-end k h = rw (drop_of_length-le lens h)
