-- Registers one by one: the cell of each, and that it is good.
use mathlib.Core.Path.{◌≡◌, refl, sym, ap, ◌∙◌}
use mathlib.Core.Bool.{true}
use mathlib.Core.List.{List, [], ◌∷◌, map}
use Prim.Native.Nat.{ℕ, zero, suc}
use lib.ListN.{length, get_or, replicate, set, length-map, get_or-map}
use Rattle.model.specs.Records.{blank, valid_plain, valid, all_valid, valid_words, cell_words, whole_cells}
use Rattle.theorems.proofs.Cells.{cell-valid, whole_words}
use Rattle.theorems.proofs.Lists.{and_both}
use Rattle.value.specs.declared.Value.{Value}
use Rattle.value.specs.declared.Value.TheVariants.{Uninitialized}
use Rattle.value.specs.Value.{value_cell, Spelled}
use Rattle.registers.specs.declared.Registers.{Registers}
use Rattle.registers.specs.Cells.{cells_of_registers, unset, GoodValue, Good}

unset-good : GoodValue Uninitialized
unfolding value_cell blank valid valid_plain
unset-good = record { cell = refl; whole = tt; ranged = tt }

-- the value of a valid cell's words
pub spelled-good : (a b o : ℕ) (v : Value) → valid_words a b o ≡ true → Spelled a b o v → GoodValue v
spelled-good a b o v e s = record { cell = rw s.cell (cell-valid a b o e); whole = s.whole; ranged = s.ranged }

-- a map keeps the length, so two maps have one
pub same_length : {A B C : Type 0} (f : A → B) (g : A → C) (l : List A) (n : ℕ) → length (map g l) ≡ n → length (map f l) ≡ n
same_length f g l n e = length-map l f ∙ sym (length-map l g) ∙ e

-- registers at first

pub first-cells : (n : ℕ) → map value_cell (replicate n unset) ≡ replicate n blank
unfolding value_cell
first-cells zero = refl
first-cells (suc n) = ap (blank ∷◌) (first-cells n)

first-values : (n k : ℕ) → GoodValue (get_or (replicate n unset) k unset)
first-values zero k = unset-good
first-values (suc n) zero = unset-good
first-values (suc n) (suc k) = first-values n k

pub first_good : Good (record { cells = replicate 16 unset })
first_good = record { values = first-values 16 }

-- one register read

module _ (s : Registers) (r : ℕ) {v : Value} (e : v ≡ get_or s.cells r unset) where
  pub got_cell : value_cell v ≡ get_or (cells_of_registers s) r blank
  unfolding value_cell
  got_cell = rw e (sym (get_or-map value_cell s.cells r unset))

  pub got-good : Good s → GoodValue v
  got-good g = rw e (g.values r)

-- one register set

cells-set : (xs : List Value) (r : ℕ) (v : Value) → map value_cell (set xs r v) ≡ set (map value_cell xs) r (value_cell v)
cells-set [] r v = refl
cells-set (x ∷ xs) zero v = refl
cells-set (x ∷ xs) (suc r) v = ap (value_cell x ∷◌) (cells-set xs r v)

values-set : (xs : List Value) (r : ℕ) (v : Value) → ((k : ℕ) → GoodValue (get_or xs k unset)) → GoodValue v
    → (k : ℕ) → GoodValue (get_or (set xs r v) k unset)
values-set [] r v g n k = g k
values-set (x ∷ xs) zero v g n zero = n
values-set (x ∷ xs) zero v g n (suc k) = g (suc k)
values-set (x ∷ xs) (suc r) v g n zero = g zero
values-set (x ∷ xs) (suc r) v g n (suc k) = values-set xs r v (λ j. g (suc j)) n k

module _ (s t : Registers) (r : ℕ) (v : Value) (e : t.cells ≡ set s.cells r v) where
  pub set-cells : cells_of_registers t ≡ set (cells_of_registers s) r (value_cell v)
  set-cells = rw e (cells-set s.cells r v)

  pub set-good : Good s → GoodValue v → Good t
  set-good g n = record { values = rw e (values-set s.cells r v g.values n) }

-- good registers' words are whole cells

pub values-valid : (xs : List Value) → ((k : ℕ) → GoodValue (get_or xs k unset)) → all_valid (map value_cell xs) ≡ true
unfolding all_valid
values-valid [] g = refl
values-valid (x ∷ xs) g = and_both _ _ (g zero).cell (values-valid xs (λ k. g (suc k)))

pub good-whole : (s : Registers) → Good s → whole_cells (cell_words (cells_of_registers s)) ≡ true
good-whole s g = whole_words (cells_of_registers s) (values-valid s.cells g.values)
