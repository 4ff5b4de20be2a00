-- Pointers changed in roots, one after the other.
use mathlib.Core.Path.{◌≡◌, sym, ap, ◌∙◌}
use mathlib.Core.Bool.{true}
use mathlib.Core.List.{List, map}
use Prim.Native.Nat.{ℕ, ◌+◌, ◌-◌, ◌≤◌}
use native.Mathlib.Nat.{sub-zero}
use native.Mathlib.Omega.{arith}
use Rattle.model.specs.Records.{Ptr, Cell, cell_words, all_valid, whole_cells}
use Rattle.model.specs.Collector.{swap_cell}
use Rattle.model.specs.Calls.{cells_in}
use Rattle.theorems.specs.Apart.{swap_roots}
use Rattle.theorems.proofs.Cells.{whole_words, words-in, whole_back, whole-valid}
use Rattle.theorems.proofs.Contents.{valid-all, all_valid_lem, valid-swap}
use Rattle.trace.specs.Words.{tab}
use Rattle.trace.proofs.Entries.{tab-cons, tab-none}
use Rattle.pointers.specs.Steps.{move_at, moves_in, moves_of}
use Rattle.pointers.proofs.Chunks.{pairs, Taken}

-- i were made, and the rest leads from w to what all make of w₀
pub record RootsLeft (w₀ list bases w : List ℕ) (i : ℕ) : Type 0 where
  pub within : i ≤ pairs list bases
  pub cells : whole_cells w ≡ true
  pub leads : swap_roots (tab (move_at list bases) i (pairs list bases - i)) (cells_in w) ≡ swap_roots (moves_of list bases) (cells_in w₀)

module _ {list bases : List ℕ} where
  pub roots-begin : {w : List ℕ} → whole_cells w ≡ true → RootsLeft w list bases w 0
  unfolding moves_in
  roots-begin {w} e = record { within = omega arith; cells = e; leads = rw (sub-zero (pairs list bases)) }

  module _ {w₀ w : List ℕ} {i : ℕ} (l : RootsLeft w₀ list bases w i) where
    pub roots-end : i ≡ pairs list bases → w ≡ cell_words (swap_roots (moves_of list bases) (cells_in w₀))
    unfolding swap_roots
    roots-end e = sym (whole_back w l.cells) ∙ ap cell_words (rw (tab-none (move_at list bases) i (pairs list bases) (omega arith)) at l.leads)

    pub roots-turn : {x : Ptr × ℕ} → Taken list bases i x → {v : List ℕ} → v ≡ cell_words (map (swap_cell x) (cells_in w)) → RootsLeft w₀ list bases v (i + 1)
    unfolding swap_roots
    roots-turn {x} t {v} is = record {
      within = omega (arith, t.more);
      cells = rw is (whole_words _ good);
      leads = rw (is, words-in _ good, t.move) (rw (tab-cons (move_at list bases) i (pairs list bases) t.more) at l.leads);
    }
      where
        cs : List Cell
        cs = cells_in w

        good : all_valid (map (swap_cell x) cs) ≡ true
        good = valid-all _ (valid-swap x cs (all_valid_lem cs (whole-valid w l.cells)))
