-- The pointer of an access and its answers, in the model.
use Rattle.std.specs.Prelude.{◌≡◌, List, [], ◌∷◌, ℕ, Result, Ok, Err}
use Rattle.std.specs.Int.{w64}
use Rattle.std.proofs.Common.{of_z}
use Rattle.model.specs.Res.{Res, ok, refuse}
use Rattle.model.specs.Records.{Ptr, Cell, cell_words}
use Rattle.model.specs.Calls.{Outcome, reads, call}
use Rattle.question.specs.Question.{number, answer, number_answer}
use Rattle.question.specs.declared.Question.{Question}
use Rattle.value.specs.declared.Pointer.{Pointer}
use Rattle.value.specs.declared.Value.{Value}
use Rattle.value.specs.Value.{value_cell, Whole, Ranged}
use Rattle.image.specs.Answers.{made_outcome}

abbrev pub pointer_of : Pointer → Ptr
pointer_of p = record { heap = p.heap; base = p.base; off = of_z w64 p.offset }

unfoldable pub loaded_cell : Result Value Question → Res Cell
loaded_cell r = answer value_cell r

unfoldable pub loaded_outcome : Result Value Question → List ℕ → Outcome
loaded_outcome (Ok v) w = record { answer = ok (cell_words (value_cell v ∷ [])); image = w; roots = [] }
loaded_outcome (Err q) w = record { answer = refuse (number q); image = w; roots = [] }

abbrev pub stored_outcome : Result (Unit {0}) Question → List ℕ → Outcome
stored_outcome r v = made_outcome r v

abbrev pub place_answer : Result ℕ Question → Res ℕ
place_answer r = number_answer r

-- the value of a cell
pub record ValueOf (c : Cell) (v : Value) : Type 0 where
  pub cell : value_cell v ≡ c
  pub whole : Whole v
  pub ranged : Ranged v

abbrev pub of_loaded : (Value → Type 0) → Result Value Question → Type 0
of_loaded P (Ok v) = P v
of_loaded P (Err q) = Unit {0}

-- a read's answer: the value of the model's cell
pub record Loads (m : Res Cell) (r : Result Value Question) : Type 0 where
  pub cell : loaded_cell r ≡ m
  pub whole : of_loaded Whole r
  pub ranged : of_loaded Ranged r

-- the same of words that may be no image
pub record LoadsFrom (w : List ℕ) (p : Ptr) (r : Result Value Question) : Type 0 where
  pub outcome : call (reads p) w ≡ loaded_outcome r w
  pub whole : of_loaded Whole r
  pub ranged : of_loaded Ranged r
