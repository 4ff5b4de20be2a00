-- What a value is in the model: a cell. And what decoding three words gives.
use Rattle.std.specs.Prelude.{◌≡◌, Bool, true, false, List, ℕ, ◌+◌, get_or, eqb, not, Option, None, Result, IfOk}
use Rattle.std.specs.Bool.{then_some}
use Rattle.std.specs.Float.{binary64}
use Rattle.std.specs.Float.Ieee.{of_bits}
use Rattle.std.specs.Int.{w64}
use Rattle.std.proofs.Common.{SFits, of_z}
use Rattle.model.specs.Res.{Res, ok, ◌>>=◌, ask}
use Rattle.question.specs.Question.{answer}
use Rattle.question.specs.declared.Question.{Question}
use Rattle.model.specs.Records.{Cell, plain, ref, blank, cell_of, valid_words}
use Rattle.value.specs.declared.Pointer.{Pointer}
use Rattle.value.specs.declared.Value.{Value}
use Rattle.value.specs.declared.Value.TheVariants.{Uninitialized, Int, Bool as BoolV, Float as FloatV, Char, Pointer as PointerV}
use Rattle.value.specs.declared.Words.{Words}
use Rattle.value.specs.declared.Kind.{Kind}
use Rattle.value.specs.declared.Kind.TheVariants as kind

abbrev pub kind_number : Kind → ℕ
kind_number kind.Uninitialized = 0
kind_number kind.Int = 1
kind_number kind.Bool = 2
kind_number kind.Float = 3
kind_number kind.Char = 4
kind_number kind.Pointer = 5

abbrev pub bool_word : Bool → ℕ
bool_word true = 1
bool_word false = 0

unfoldable pub value_cell : Value → Cell
value_cell Uninitialized = blank
value_cell (Int x) = plain 1 (of_z w64 x)
value_cell (BoolV b) = plain 2 (bool_word b)
value_cell (FloatV n b) = plain 3 b
value_cell (Char c) = plain 4 c
value_cell (PointerV p) = ref (record { heap = p.heap; base = p.base; off = of_z w64 p.offset })

-- a value's pointer, if it is one to another heap than own
unfoldable pub crossing : ℕ → Value → Option Pointer
crossing own (PointerV p) = then_some (not (eqb p.heap own)) p
crossing own v = None

-- the three words from i on
abbrev pub words_at : List ℕ → ℕ → Words
words_at ws i = record { tag = get_or ws i 0; payload = get_or ws (i + 1) 0; offset = get_or ws (i + 2) 0 }

-- a Float's number is that of its bits
abbrev pub Whole : Value → Type 0
Whole Uninitialized = Unit {0}
Whole (Int x) = Unit {0}
Whole (BoolV b) = Unit {0}
Whole (FloatV n b) = n ≡ of_bits binary64 b
Whole (Char c) = Unit {0}
Whole (PointerV p) = Unit {0}

-- its i64 is in range: so it is with every value of a program, and a law over all of `Value` has to say it
abbrev pub Ranged : Value → Type 0
Ranged Uninitialized = Unit {0}
Ranged (Int x) = SFits w64 x
Ranged (BoolV b) = Unit {0}
Ranged (FloatV n b) = Unit {0}
Ranged (Char c) = Unit {0}
Ranged (PointerV p) = SFits w64 p.offset

-- the value of three words that are a valid cell's
pub record Spelled (a b o : ℕ) (v : Value) : Type 0 where
  pub cell : value_cell v ≡ cell_of a b o
  pub whole : Whole v
  pub ranged : Ranged v

-- the cell of three words, if 3 gets a yes
unfoldable pub cell_asked : ℕ → ℕ → ℕ → Res Cell
cell_asked a b o = ask 3 (valid_words a b o) >>= λ _. ok (cell_of a b o)

pub record Decodes (a b o : ℕ) (r : Result Value Question) : Type 0 where
  pub cell : answer value_cell r ≡ cell_asked a b o
  pub whole : IfOk r Whole
  pub ranged : IfOk r Ranged
