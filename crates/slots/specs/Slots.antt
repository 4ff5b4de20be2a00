-- The elder's slots in words: what the contracts of `src/` cite.
use Rattle.std.specs.Prelude.{◌≡◌, Option, Some, None, Bool, true, false, List, [], ◌++◌, map, ℕ, ◌+◌, ◌*◌, ◌≤◌, ltb, length, get_or, take, drop, set}
use Rattle.std.proofs.Math.Seq.{paste}
use Rattle.model.specs.Lists.{flat, sum}
use Rattle.model.specs.Res.{Res, ok, refuse, ◌>>=◌, ask}
use Rattle.model.specs.Records.{Cell, Ptr, blank, cell_words, cell_of, cells_of, all_valid, valid_words}
use Rattle.model.specs.Heap.{in_use}
use Rattle.model.specs.Image.{cut}
use Rattle.words.specs.Words.{padded}
use Rattle.trace.specs.Words.{pointer}
use Rattle.value.specs.declared.Words.{Words}
use Rattle.slots.specs.declared.Move.{Move}
use Rattle.slots.specs.declared.Slots.{Slots}

-- the lengths and the cells' words hold the slots, packed in base order, the rest zero
pub record Packed (ls ws : List ℕ) (slots : List (List Cell)) : Type 0 where
  pub lens : ls ≡ map length slots
  pub cells : ws ≡ padded (cell_words (flat slots)) (length ws)
  pub fits : in_use slots * 3 ≤ length ws
  pub valid : all_valid (flat slots) ≡ true

-- the slots that they hold
unfoldable pub slots_of : List ℕ → List ℕ → List (List Cell)
slots_of ls ws = cut ls (cells_of (sum ls) ws)

-- words w: s lengths, other words up to `at`, the cells' words

unfoldable pub slots_at : ℕ → ℕ → List ℕ → List (List Cell)
slots_at s at w = slots_of (take s w) (drop at w)

unfoldable pub between : ℕ → ℕ → List ℕ → List ℕ
between s at w = drop s (take at w)

pub record Elder (s at : ℕ) (w : List ℕ) (slots : List (List Cell)) : Type 0 where
  pub order : s ≤ at
  pub inside : at ≤ length w
  pub packed : Packed (take s w) (drop at w) slots

-- w became v, which holds these slots; the other words are as they were
pub record Changed (s at : ℕ) (w v : List ℕ) (slots : List (List Cell)) : Type 0 where
  pub elder : Elder s at v slots
  pub same : between s at v ≡ between s at w

-- the same of words that are lent

abbrev pub slots_in : Slots → List (List Cell)
slots_in x = slots_at x.s x.at x.words.now

abbrev pub ElderIn : Slots → Type 0
ElderIn x = Elder x.s x.at x.words.now (slots_in x)

-- the same words are lent, as many, with the same s and `at`
pub record Same (before after : Slots) : Type 0 where
  pub s : after.s ≡ before.s
  pub at : after.at ≡ before.at
  pub len : length after.words.now ≡ length before.words.now
  pub name : after.words.ghost_name ≡ before.words.ghost_name

pub record ChangedIn (before after : Slots) (slots : List (List Cell)) : Type 0 where
  pub changed : Changed before.s before.at before.words.now after.words.now slots
  pub same : Same before after

-- a cell, or question 8

unfoldable pub read_old : List (List Cell) → ℕ → ℕ → Res Cell
read_old slots b o = ask 8 (ltb o (length (get_or slots b []))) >>= λ _. ok (get_or (get_or slots b []) o blank)

unfoldable pub answer : Option Words → Res Cell
answer (Some c) = ok (cell_of c.tag c.payload c.offset)
answer None = refuse 8

unfoldable pub valid_old : Option Words → Bool
valid_old (Some c) = valid_words c.tag c.payload c.offset
valid_old None = true

pub record ReadBy (m : Res Cell) (r : Option Words) : Type 0 where
  pub is : answer r ≡ m
  pub valid : valid_old r ≡ true

-- the cell of three words written at (b, o)
abbrev pub written : ℕ → ℕ → List ℕ → List (List Cell) → List (List Cell)
written b o cell slots = set slots b (set (get_or slots b []) o (cell_of (get_or cell 0 0) (get_or cell 1 0) (get_or cell 2 0)))

-- a moved pointer and its new base
abbrev pub move_of : Move → Ptr × ℕ
move_of m = (pointer m.heap m.base m.offset, m.new)

-- one slot of n words is kept, its words moved from src to dst, or dropped

unfoldable pub stepped : Bool → ℕ → ℕ → ℕ → ℕ → ℕ → List ℕ → List ℕ
stepped true at b src dst n w = take at w ++ paste (drop at w) dst (drop src (drop at w)) n
stepped false at b src dst n w = set w b 0

unfoldable pub stepped_to : Bool → ℕ → ℕ → ℕ
stepped_to true dst n = dst + n
stepped_to false dst n = dst
