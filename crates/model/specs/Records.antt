-- Records: pointers, cells, a cell's three words.
use Rattle.std.specs.Prelude.{Bool, true, false, ◌&&◌, ◌||◌, List, [], ◌∷◌, ℕ, zero, suc, ◌+◌, ◌*◌, ◌%◌, ◌/◌, ltb, leb, eqb, get_or, drop}
use Rattle.model.specs.Lists.{keep_if}

-- heap 0 is the nursery, 1 the elder generation; `off` is the word of an i64
pub record Ptr : Type 0 where
  pub heap : ℕ
  pub base : ℕ
  pub off : ℕ

-- A value: a kind below 5 with its payload (0 Uninitialized, 1 Int, 2 Bool, 3 Float, 4 Char), or kind 5, a pointer.
pub data Cell : Type 0 where
  plain : ℕ → ℕ → Cell
  ref : Ptr → Cell

unfoldable pub blank : Cell
blank = plain 0 0

-- a cell is three words: kind + 256 × heap, payload or base, offset

unfoldable pub cell_words : List Cell → List ℕ
cell_words [] = []
cell_words (plain k v ∷ cs) = k ∷ v ∷ 0 ∷ cell_words cs
cell_words (ref p ∷ cs) = (p.heap * 256 + 5) ∷ p.base ∷ p.off ∷ cell_words cs

abbrev pub cell_if : Bool → ℕ → ℕ → ℕ → Cell
cell_if true a b o = ref (record { heap = a / 256; base = b; off = o })
cell_if false a b o = plain a b

unfoldable pub cell_of : ℕ → ℕ → ℕ → Cell
cell_of a b o = cell_if (eqb (a % 256) 5) a b o

unfoldable pub cells_of : ℕ → List ℕ → List Cell
cells_of zero w = []
cells_of (suc n) w = cell_of (get_or w 0 0) (get_or w 1 0) (get_or w 2 0) ∷ cells_of n (drop 3 w)

-- Valid cells (question 3): Bool 0 or 1, Char a Unicode scalar, heap 0 or 1; words and bytes without a use are zero.

unfoldable pub scalar : ℕ → Bool
scalar v = ltb v 0xD800 || (leb 0xE000 v && ltb v 0x110000)

unfoldable pub valid_plain : ℕ → ℕ → Bool
valid_plain zero v = eqb v 0
valid_plain (suc zero) v = true
valid_plain (suc (suc zero)) v = ltb v 2
valid_plain (suc (suc (suc zero))) v = true
valid_plain (suc (suc (suc (suc zero)))) v = scalar v
valid_plain (suc (suc (suc (suc (suc k))))) v = false

unfoldable pub valid : Cell → Bool
valid (plain k v) = valid_plain k v
valid (ref p) = ltb p.heap 2

unfoldable pub all_valid : List Cell → Bool
all_valid [] = true
all_valid (c ∷ cs) = valid c && all_valid cs

abbrev pub spare_zero : Cell → ℕ → Bool
spare_zero (plain k v) o = eqb o 0
spare_zero (ref p) o = true

unfoldable pub valid_words : ℕ → ℕ → ℕ → Bool
valid_words a b o = valid (cell_of a b o) && spare_zero (cell_of a b o) o

-- whole, valid cells
unfoldable pub whole_cells : List ℕ → Bool
whole_cells [] = true
whole_cells (a ∷ []) = false
whole_cells (a ∷ b ∷ []) = false
whole_cells (a ∷ b ∷ o ∷ w) = valid_words a b o && whole_cells w

-- Pointers

unfoldable pub whole : ℕ → ℕ → Ptr
whole h b = record { heap = h; base = b; off = 0 }

unfoldable pub same_ptr : Ptr → Ptr → Bool
same_ptr p q = eqb p.heap q.heap && eqb p.base q.base && eqb p.off q.off

-- a word read as i64, moved up by 2^63
unfoldable pub biased : ℕ → ℕ
biased w = (w + 0x8000_0000_0000_0000) % 0x1_0000_0000_0000_0000

-- is the sum of two i64, as words, within i64?
unfoldable pub sum_fits : ℕ → ℕ → Bool
sum_fits a b = let i = biased a + biased b in leb 0x8000_0000_0000_0000 i && ltb i 0x1_8000_0000_0000_0000

unfoldable pub pointers : List Cell → List Ptr
pointers [] = []
pointers (plain k v ∷ cs) = pointers cs
pointers (ref p ∷ cs) = p ∷ pointers cs

unfoldable pub in_heap : ℕ → Ptr → Bool
in_heap h p = eqb p.heap h

unfoldable pub pointers_to : ℕ → List Cell → List Ptr
pointers_to h cs = keep_if (in_heap h) (pointers cs)
