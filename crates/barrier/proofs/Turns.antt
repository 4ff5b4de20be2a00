-- Cells counted one after the other: the loop's turns.
use mathlib.Core.Path.{◌≡◌, refl, sym, ap}
use mathlib.Core.Bool.{Bool, true, false, not, ◌&&◌, ◌||◌, true≢false}
use mathlib.Core.List.{List, [], ◌∷◌, map}
use Prim.Native.Nat.{ℕ, zero, suc, ◌%◌, ◌/◌, ◌+◌, ◌<◌, ◌≤◌}
use native.Mathlib.Numerals.{add-one}
use native.Mathlib.Omega.{arith}
use lib.Dec.{eqb}
use lib.ListN.{length, get_or, drop, drop_of_length-le}
use lib.Seq.{drop-cons}
use Rattle.std.specs.Simd.{first_chunks}
use Rattle.model.specs.Res.{Res, ok, refuse, ◌>>=◌, each}
use Rattle.model.specs.Records.{Cell, cell_if, cell_of, cells_of, valid_words, whole_cells}
use Rattle.model.specs.Barrier.{Barrier}
use Rattle.model.specs.Calls.{cells_in}
use Rattle.theorems.proofs.Lists.{and_parts, and_both}
use Rattle.theorems.proofs.Cells.{in-cons}
use Rattle.value.specs.declared.Value.{Value}
use Rattle.value.specs.Value.{value_cell, Spelled}
use Rattle.barrier.specs.Counts.{crossing, any_crossing}
use Rattle.barrier.proofs.Steps.{Steps}

-- a cell that does not cross changes nothing
skip : {own : ℕ} {f : Cell → Barrier → Res Barrier} {g : ℕ → Barrier → Res Barrier} → Steps own f g
    → (a x o : ℕ) (b : Barrier) → crossing a own ≡ false → f (cell_of a x o) b ≡ ok b
unfolding cell_of crossing
skip {own} {f} s a x o b = go (eqb (a % 256) 5) (eqb (a / 256) own) refl
  where
    go : (t u : Bool) → eqb (a / 256) own ≡ u → (t && not u) ≡ false → f (cell_if t a x o) b ≡ ok b
    go true true e h = rw (← s.of_ref, e)
    go true false e h = absurd (true≢false h)
    go false u e h = sym (s.of_plain a x b)

-- the three words of a cell that crosses, and of one of these

abbrev pub crossing_cell : ℕ → List ℕ → Bool
crossing_cell own ws = crossing (get_or ws 0 0) own

abbrev pub crossing_cells : ℕ → List (List ℕ) → Bool
crossing_cells own [] = false
crossing_cells own (ws ∷ rest) = crossing_cell own ws || crossing_cells own rest

cut : (own k : ℕ) (w : List ℕ) → length w / 3 ≡ k → any_crossing own w ≡ crossing_cells own (first_chunks 3 k w)
unfolding any_crossing
cut own zero [] h = refl
cut own zero (a ∷ []) h = refl
cut own zero (a ∷ x ∷ []) h = refl
cut own zero (a ∷ x ∷ o ∷ w) h = absurd (omega arith)
cut own (suc k) [] h = absurd (omega arith)
cut own (suc k) (a ∷ []) h = absurd (omega arith)
cut own (suc k) (a ∷ x ∷ []) h = absurd (omega arith)
cut own (suc k) (a ∷ x ∷ o ∷ w) h = rw (cut own k w (omega arith)) refl

-- as the code cuts them
pub crossing-cut : (own : ℕ) (w : List ℕ) → any_crossing own w ≡ crossing_cells own (first_chunks 3 (length w / 3) w)
crossing-cut own w = cut own (length w / 3) w refl

neither : (s t : Bool) → (s || t) ≡ false → (s ≡ false) × (t ≡ false)
neither false t e = (refl, e)
neither true t e = absurd (true≢false e)

no_cells : (f : Cell → Barrier → Res Barrier) (b : Barrier) → each f (cells_in []) b ≡ ok b
unfolding cells_in cells_of
no_cells f b = refl

-- where none crosses, nothing is counted
pub quiet : {own : ℕ} {f : Cell → Barrier → Res Barrier} {g : ℕ → Barrier → Res Barrier} → Steps own f g → (w : List ℕ) → whole_cells w ≡ true → any_crossing own w ≡ false → (b : Barrier) → each f (cells_in w) b ≡ ok b
unfolding any_crossing whole_cells
quiet {f = f} s [] h e b = no_cells f b
quiet s (a ∷ []) h e b = absurd (true≢false (sym h))
quiet s (a ∷ x ∷ []) h e b = absurd (true≢false (sym h))
quiet {own} {f} s (a ∷ x ∷ o ∷ w) h e b =
    let (here, behind) = neither (crossing a own) (any_crossing own w) e in
    let step : f (cell_of a x o) b ≡ ok b = skip s a x o b here in
    rw (in-cons a x o w, step) (quiet s w (and_parts (valid_words a x o) (whole_cells w) h).1 behind b)

-- the cell of three words, and the cells of these

abbrev pub three_cell : List ℕ → Cell
three_cell ws = cell_of (get_or ws 0 0) (get_or ws 1 0) (get_or ws 2 0)

abbrev valid_cells : List (List ℕ) → Bool
valid_cells [] = true
valid_cells (ws ∷ rest) = valid_words (get_or ws 0 0) (get_or ws 1 0) (get_or ws 2 0) && valid_cells rest

module _ (w : List ℕ) where
  pub triples-valid : whole_cells w ≡ true → valid_cells (first_chunks 3 (length w / 3) w) ≡ true
  unfolding whole_cells
  triples-valid = go (length w / 3) w refl
    where
      go : (k : ℕ) (w : List ℕ) → length w / 3 ≡ k → whole_cells w ≡ true → valid_cells (first_chunks 3 k w) ≡ true
      go zero w h e = refl
      go (suc k) [] h e = absurd (omega arith)
      go (suc k) (a ∷ []) h e = absurd (omega arith)
      go (suc k) (a ∷ x ∷ []) h e = absurd (omega arith)
      go (suc k) (a ∷ x ∷ o ∷ w) h e = let (here, behind) = and_parts (valid_words a x o) (whole_cells w) e in and_both _ _ here (go k w (omega arith) behind)

  pub triples-cells : map three_cell (first_chunks 3 (length w / 3) w) ≡ cells_in w
  unfolding cells_in cells_of
  triples-cells = go (length w / 3) w refl
    where
      go : (k : ℕ) (w : List ℕ) → length w / 3 ≡ k → map three_cell (first_chunks 3 k w) ≡ cells_of k w
      go zero w h = refl
      go (suc k) [] h = absurd (omega arith)
      go (suc k) (a ∷ []) h = absurd (omega arith)
      go (suc k) (a ∷ x ∷ []) h = absurd (omega arith)
      go (suc k) (a ∷ x ∷ o ∷ w) h = ap (cell_of a x o ∷◌) (go k w (omega arith))

-- the cells from i on, counted after m, are what is left of all of them, counted after m₀
pub record Left (f : Cell → Barrier → Res Barrier) (ts : List (List ℕ)) (m₀ : Res Barrier) (i : ℕ) (m : Res Barrier) : Type 0 where
  pub cells : valid_cells (drop i ts) ≡ true
  pub rest : (m >>= each f (map three_cell (drop i ts))) ≡ (m₀ >>= each f (map three_cell ts))

module _ (f : Cell → Barrier → Res Barrier) (ts : List (List ℕ)) (m₀ : Res Barrier) where
  pub begin : valid_cells ts ≡ true → Left f ts m₀ 0 m₀
  begin h = record { cells = h; rest = refl }

  module _ {i : ℕ} where
    pub ended : (m : Res Barrier) → Left f ts m₀ i m → length ts ≤ i → m ≡ (m₀ >>= each f (map three_cell ts))
    ended (ok b) l h = let none : drop i ts ≡ [] = drop_of_length-le ts {i = i} h in rw none at l.rest
    ended (refuse q) l h = l.rest

    pub turn-refused : (q : ℕ) → Left f ts m₀ i (refuse q) → refuse q ≡ (m₀ >>= each f (map three_cell ts))
    turn-refused q l = l.rest

    module _ (h : i < length ts) where
      here : drop i ts ≡ get_or ts i [] ∷ drop (i + 1) ts
      here = rw add-one (drop-cons ts i [] h)

      both : {m : Res Barrier} → Left f ts m₀ i m → (valid_words (get_or (get_or ts i []) 0 0) (get_or (get_or ts i []) 1 0) (get_or (get_or ts i []) 2 0) ≡ true) × (valid_cells (drop (i + 1) ts) ≡ true)
      both l = and_parts _ _ (rw here at l.cells)

      pub valid-here : {m : Res Barrier} → Left f ts m₀ i m → valid_words (get_or (get_or ts i []) 0 0) (get_or (get_or ts i []) 1 0) (get_or (get_or ts i []) 2 0) ≡ true
      valid-here l = (both l).0

      next : (b : Barrier) → Left f ts m₀ i (ok b) → (f (three_cell (get_or ts i [])) b >>= each f (map three_cell (drop (i + 1) ts))) ≡ (m₀ >>= each f (map three_cell ts))
      next b l = rw here at l.rest

      pub turn-skip : {own : ℕ} {g : ℕ → Barrier → Res Barrier} → Steps own f g → crossing (get_or (get_or ts i []) 0 0) own ≡ false → (m : Res Barrier) → Left f ts m₀ i m → Left f ts m₀ (i + 1) m
      turn-skip s e (ok b) l = record { cells = (both l).1; rest = rw (skip s _ _ _ b e) at (next b l) }
      turn-skip s e (refuse q) l = record { cells = (both l).1; rest = l.rest }

      pub turn-counted : (b : Barrier) → Left f ts m₀ i (ok b) → (v : Value) → Spelled (get_or (get_or ts i []) 0 0) (get_or (get_or ts i []) 1 0) (get_or (get_or ts i []) 2 0) v → {m : Res Barrier} → m ≡ f (value_cell v) b → Left f ts m₀ (i + 1) m
      turn-counted b l v is e = record { cells = (both l).1; rest = rw (e, is.cell) (next b l) }
