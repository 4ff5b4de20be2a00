-- Registers and the roots' words, three words a register at each turn.
use mathlib.Core.Path.{◌≡◌, refl, sym, ap, ◌∙◌}
use mathlib.Core.Bool.{true}
use mathlib.Core.List.{List, [], ◌∷◌, ◌++◌, map, append-nil}
use Prim.Native.Nat.{ℕ, suc, ◌+◌, ◌*◌, ◌≤◌, ◌<◌}
use native.Mathlib.Omega.{arith}
use native.Mathlib.Numerals.{add-one}
use lib.ListN.{length, get_or, take, drop, set, length-set, drop_of_length-le}
use lib.Seq.{drop-cons, append_snoc, take_all, take-suc-set}
use Rattle.std.specs.List.{flat_map}
use Rattle.model.specs.Records.{cell_words, cells_of, valid_words, whole_cells}
use Rattle.model.specs.Calls.{cells_in}
use Rattle.theorems.proofs.Cells.{words-cons, in-cons}
use Rattle.theorems.proofs.Lists.{and_parts}
use Rattle.value.specs.declared.Value.{Value}
use Rattle.value.specs.Value.{value_cell, Spelled}
use Rattle.registers.specs.declared.Registers.{Registers}
use Rattle.registers.specs.Cells.{cells_of_registers, unset, Good}
use Rattle.registers.proofs.Values.{spelled-good, set-cells, set-good}

-- the words of each register's cell, in a row
pub cells-flat : (vs : List Value) (ws : List (List ℕ)) → length ws ≡ length vs → ((i : ℕ) → i < length vs → get_or ws i [] ≡ cell_words (value_cell (get_or vs i unset) ∷ []))
    → flat_map (λ w. w) ws ≡ cell_words (map value_cell vs)
unfolding cell_words
cells-flat [] [] l e = refl
cells-flat [] (w ∷ ws) l e = cc
cells-flat (v ∷ vs) [] l e = cc
cells-flat (v ∷ vs) (w ∷ ws) l e =
    let rest = cells-flat vs ws (omega (arith, l)) (λ i h. e (suc i) (omega (arith, h))) in
    rw (e 0 (omega arith), rest, words-cons (value_cell v) [], words-cons (value_cell v) (map value_cell vs)) refl

-- the registers below i are those of w's first cells, and the cells from i on are left
pub record Loaded (w : List ℕ) (s : Registers) (i : ℕ) : Type 0 where
  pub within : i ≤ 16
  pub room : length (cells_of_registers s) ≡ 16
  pub cells : whole_cells (drop (3 * i) w) ≡ true
  pub rest : take i (cells_of_registers s) ++ cells_in (drop (3 * i) w) ≡ cells_in w
  pub good : Good s

module _ (w : List ℕ) (l : length w ≡ 48) where
  module _ {s : Registers} {i : ℕ} (d : Loaded w s i) where
    pub loaded-all : 16 ≤ i → cells_of_registers s ≡ cells_in w
    unfolding cells_in cells_of
    loaded-all h =
        let none : drop (3 * i) w ≡ [] = drop_of_length-le w {i = 3 * i} (omega arith) in
        let all : take i (cells_of_registers s) ≡ cells_of_registers s = take_all i (cells_of_registers s) (omega (arith, d.room)) in
        sym (append-nil (cells_of_registers s)) ∙ (rw (none, all) at d.rest)

    module _ (h : i < 16) where
      parted : drop (3 * i) w ≡ get_or w (3 * i) 0 ∷ get_or w (3 * i + 1) 0 ∷ get_or w (3 * i + 2) 0 ∷ drop (3 * (i + 1)) w
      parted =
          let one : 3 * i < length w = omega arith in
          let two : 3 * i + 1 < length w = omega arith in
          let three : 3 * i + 2 < length w = omega arith in
          let e₁ : suc (3 * i) ≡ 3 * i + 1 = omega arith in
          let e₂ : suc (3 * i + 1) ≡ 3 * i + 2 = omega arith in
          let e₃ : suc (3 * i + 2) ≡ 3 * (i + 1) = omega arith in
          rw (drop-cons w (3 * i) 0, e₁, drop-cons w (3 * i + 1) 0, e₂, drop-cons w (3 * i + 2) 0, e₃)

      both : (valid_words (get_or w (3 * i) 0) (get_or w (3 * i + 1) 0) (get_or w (3 * i + 2) 0) ≡ true) × (whole_cells (drop (3 * (i + 1)) w) ≡ true)
      unfolding whole_cells
      both = and_parts _ _ (rw parted at d.cells)

      pub valid-here : valid_words (get_or w (3 * i) 0) (get_or w (3 * i + 1) 0) (get_or w (3 * i + 2) 0) ≡ true
      valid-here = both.0

      module _ {v : Value} (p : Spelled (get_or w (3 * i) 0) (get_or w (3 * i + 1) 0) (get_or w (3 * i + 2) 0) v) where
        pub loaded-more : (t : Registers) → t.cells ≡ set s.cells i v → Loaded w t (i + 1)
        loaded-more t e =
            let cs = cells_of_registers s in
            let is = set-cells s t i v e in
            let front : take (i + 1) (set cs i (value_cell v)) ≡ take i cs ++ value_cell v ∷ [] = rw add-one (take-suc-set cs i (value_cell v) (omega (arith, d.room))) in
            record {
              within = omega arith;
              room = ap length is ∙ length-set cs i (value_cell v) ∙ d.room;
              cells = both.1;
              rest = rw (is, front) (append_snoc (take i cs) (value_cell v) _ ∙ (rw p.cell (rw (parted, in-cons) at d.rest)));
              good = set-good s t i v e d.good (spelled-good _ _ _ v valid-here p);
            }
