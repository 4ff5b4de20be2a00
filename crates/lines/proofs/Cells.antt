-- The text of a cell that is no pointer, by its words.
use mathlib.Core.Path.{◌≡◌, refl}
use mathlib.Core.List.{[], ◌∷◌}
use Prim.Native.Nat.{ℕ}
use Rattle.model.specs.Records.{blank, cell_words}
use Rattle.model.specs.Listing.{spaced, cell_text}
use Rattle.theorems.proofs.Cells.{kind_word, payload_word}
use Rattle.value.proofs.RoundTrip.{three-words}
use Rattle.value.specs.declared.Pointer.{Pointer}
use Rattle.value.specs.declared.Value.{Value}
use Rattle.value.specs.declared.Value.TheVariants.{Uninitialized, Int, Bool as BoolV, Float as FloatV, Char, Pointer as PointerV}
use Rattle.value.specs.Value.{value_cell}

plain_cell : (v : Value) → ((p : Pointer) → v ≡ PointerV p → ⊥) → spaced (kind_word (value_cell v) ∷ 0 ∷ payload_word (value_cell v) ∷ 0 ∷ []) ≡ cell_text (value_cell v)
unfolding value_cell blank cell_text
plain_cell Uninitialized h = refl
plain_cell (Int x) h = refl
plain_cell (BoolV b) h = refl
plain_cell (FloatV n b) h = refl
plain_cell (Char c) h = refl
plain_cell (PointerV p) h = absurd (h p refl)

pub plain-text : (v : Value) (a b o : ℕ) → ((p : Pointer) → v ≡ PointerV p → ⊥) → (a ∷ b ∷ o ∷ []) ≡ cell_words (value_cell v ∷ []) → spaced (a ∷ 0 ∷ b ∷ 0 ∷ []) ≡ cell_text (value_cell v)
plain-text v a b o h e = let (kind, payload, _) = three-words (value_cell v) a b o e in rw (kind, payload) (plain_cell v h)
