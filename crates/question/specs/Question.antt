-- The numbers of the questions, and an answer of the code as one of the model.
use Rattle.std.specs.Prelude.{ℕ, Result, Ok, Err}
use Rattle.model.specs.Res.{Res, ok, refuse}
use Rattle.question.specs.declared.Question.{Question}
use Rattle.question.specs.declared.Question.TheVariants.{Sizes, Form, Cells, Scratch, Amount, Allocation, Room, Access, Range, Count, Bound, Command, Pointer, Heap, Figure}

abbrev pub number : Question → ℕ
number Sizes = 1
number Form = 2
number Cells = 3
number Scratch = 4
number Amount = 5
number Allocation = 6
number Room = 7
number Access = 8
number Range = 9
number Count = 10
number Bound = 11
number Command = 12
number Pointer = 13
number Heap = 14
number Figure = 15

-- what the code answers, with its value as the model has it
abbrev pub answer : {T A : Type 0} → (T → A) → Result T Question → Res A
answer f (Ok x) = ok (f x)
answer f (Err q) = refuse (number q)

-- one that is a number as it stands, and one that is nothing
abbrev pub number_answer : Result ℕ Question → Res ℕ
number_answer r = answer (λ n. n) r

abbrev pub done_answer : Result (Unit {0}) Question → Res (Unit {0})
done_answer r = answer (λ u. u) r
