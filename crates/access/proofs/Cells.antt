-- The nursery's cells in an image's words.
use mathlib.Core.Path.{◌≡◌, refl, sym, ◌∙◌}
use mathlib.Core.Bool.{true}
use mathlib.Core.List.{List, [], ◌∷◌}
use Prim.Native.Nat.{ℕ, ◌<◌}
use native.Mathlib.Omega.{arith}
use lib.ListN.{get_or}
use Rattle.model.specs.Records.{Cell, blank, cell_words, cell_of, valid, valid_words}
use Rattle.model.specs.Heap.{Heap}
use Rattle.theorems.specs.Fit.{Image}
use Rattle.theorems.proofs.Cells.{kind_word, payload_word, offset_word, words-cons, cell-back, valid-words}
use Rattle.theorems.proofs.Contents.{all_valid_lem, at_mem}

-- the words of a cell that was read, and what they are

module _ (c : Cell) {a b o : ℕ} (e : cell_words (c ∷ []) ≡ a ∷ b ∷ o ∷ []) (v : valid c ≡ true) where
  three : (kind_word c ∷ payload_word c ∷ offset_word c ∷ []) ≡ a ∷ b ∷ o ∷ []
  unfolding cell_words
  three = sym (words-cons c []) ∙ e

  pub read-valid : valid_words a b o ≡ true
  read-valid =
      let p : kind_word c ≡ a = let t = three in cc in
      let q : payload_word c ≡ b = let t = three in cc in
      let r : offset_word c ≡ o = let t = three in cc in
      rw (← p, ← q, ← r) (valid-words c v)

  pub read_cell : cell_of a b o ≡ c
  read_cell =
      let p : kind_word c ≡ a = let t = three in cc in
      let q : payload_word c ≡ b = let t = three in cc in
      let r : offset_word c ≡ o = let t = three in cc in
      rw (← p, ← q, ← r) (cell-back c v)

pub young-valid : {w : List ℕ} {h : Heap} → Image w h → (i : ℕ) → i < h.size.n → valid (get_or h.young.cells i blank) ≡ true
young-valid {w} {h} m i u = all_valid_lem h.young.cells m.fit.young.valid (get_or h.young.cells i blank) (at_mem h.young.cells i blank (omega (arith, m.fit.young.cells)) refl)
