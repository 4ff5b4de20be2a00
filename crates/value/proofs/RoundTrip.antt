-- Words and values, there and back: a decoded value's words are those it came from, and a value's words decode to it.
use mathlib.Core.Path.{◌≡◌, refl, sym, ap, ◌∙◌}
use mathlib.Core.Bool.{Bool, true, false}
use mathlib.Core.List.{[], ◌∷◌}
use Prim.Native.Nat.{ℕ, zero, suc}
use Rattle.std.specs.Prelude.{Result, Ok, Err}
use lib.Dec.{eqb}
use lib.Ieee.{binary64, of_bits}
use mir.Syntax.{w64}
use mir.Val.{to_z}
use mir.ValLaws.{to_z-of_z}
use Rattle.model.specs.Res.{ok, ◌>>=◌, ask}
use Rattle.model.specs.Records.{Cell, plain, ref, blank, cell_words, cell_of, valid, valid_words}
use Rattle.theorems.proofs.Cells.{kind_word, payload_word, offset_word, words-cons, cell-back, valid-words, cell-words}
use Rattle.value.specs.declared.Value.{Value}
use Rattle.value.specs.declared.Value.TheVariants.{Uninitialized, Int, Bool as BoolV, Float as FloatV, Char, Pointer as PointerV}
use Rattle.question.specs.Question.{answer}
use Rattle.question.specs.declared.Question.{Question}
use Rattle.value.specs.Value.{value_cell, Whole, Ranged, Spelled, cell_asked, Decodes}

-- the words of the value of a valid cell's words are those
pub spelled-words : (a b o : ℕ) (v : Value) → valid_words a b o ≡ true → Spelled a b o v → cell_words (value_cell v ∷ []) ≡ a ∷ b ∷ o ∷ []
unfolding cell_words
spelled-words a b o v e s = rw s.cell (cell-words a b o [] e)

-- a decoded value is that of its words, and they are a valid cell's
module _ (a b o : ℕ) (v : Value) (d : Decodes a b o (Ok v)) where
  pub decoded-asked : valid_words a b o ≡ true
  unfolding cell_asked
  decoded-asked = go (valid_words a b o) d.cell
    where
      go : (t : Bool) → ok (value_cell v) ≡ (ask 3 t >>= λ _. ok (cell_of a b o)) → t ≡ true
      go true e = refl
      go false e = cc

  pub decoded-spelled : Spelled a b o v
  unfolding cell_asked
  decoded-spelled = record { cell = unwrapped (rw decoded-asked at d.cell); whole = d.whole; ranged = d.ranged }
    where
      unwrapped : ok (value_cell v) ≡ ok (cell_of a b o) → value_cell v ≡ cell_of a b o
      unwrapped e = cc

  pub decoded-words : cell_words (value_cell v ∷ []) ≡ a ∷ b ∷ o ∷ []
  decoded-words = spelled-words a b o v decoded-asked decoded-spelled

-- a value for each cell
cell_value : Cell → Value
cell_value (plain zero n) = Uninitialized
cell_value (plain (suc zero) n) = Int (to_z w64 n)
cell_value (plain (suc (suc zero)) n) = BoolV (eqb n 1)
cell_value (plain (suc (suc (suc zero))) n) = FloatV (of_bits binary64 n) n
cell_value (plain (suc (suc (suc (suc k)))) n) = Char n
cell_value (ref p) = PointerV (record { heap = p.heap; base = p.base; offset = to_z w64 p.off })

cell-value : (v : Value) → Whole v → Ranged v → cell_value (value_cell v) ≡ v
unfolding value_cell blank cell_value
cell-value Uninitialized w r = refl
cell-value (Int x) w r = ap Int (to_z-of_z w64 x r)
cell-value (BoolV true) w r = refl
cell-value (BoolV false) w r = refl
cell-value (FloatV n b) w r = rw (← w)
cell-value (Char c) w r = refl
cell-value (PointerV p) w r = λ i. PointerV (record { heap = p.heap; base = p.base; offset = to_z-of_z w64 p.offset r i })

-- whole values of one cell are the same
pub same-cell : (u v : Value) → Whole u → Ranged u → Whole v → Ranged v → value_cell u ≡ value_cell v → u ≡ v
same-cell u v wu ru wv rv e = sym (cell-value u wu ru) ∙ ap cell_value e ∙ cell-value v wv rv

-- three words that are a cell's, one by one
pub three-words : (c : Cell) (a b o : ℕ) → (a ∷ b ∷ o ∷ []) ≡ cell_words (c ∷ []) → (a ≡ kind_word c) × (b ≡ payload_word c) × (o ≡ offset_word c)
unfolding cell_words
three-words c a b o e = let three : (a ∷ b ∷ o ∷ []) ≡ (kind_word c ∷ payload_word c ∷ offset_word c ∷ []) = e ∙ words-cons c [] in (cc, cc, cc)

pub words-decode : (v : Value) → Whole v → Ranged v → valid (value_cell v) ≡ true
    → (a b o : ℕ) (r : Result Value Question) → (a ∷ b ∷ o ∷ []) ≡ cell_words (value_cell v ∷ []) → Decodes a b o r → r ≡ Ok v
unfolding cell_asked
words-decode v w n g a b o r e d =
    let (first, second, third) = three-words (value_cell v) a b o e in
    go r d (rw (valid-words (value_cell v) g, cell-back (value_cell v) g) at (rw (first, second, third) at d.cell))
  where
    go : (r : Result Value Question) → Decodes a b o r → answer value_cell r ≡ ok (value_cell v) → r ≡ Ok v
    go (Ok u) d q = ap Ok (same-cell u v d.whole d.ranged w n (cc))
    go (Err u) d q = cc
