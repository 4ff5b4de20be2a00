-- What one command does: its answer in numbers and the state after it are those of the model's step.
use Rattle.std.specs.Prelude.{◌≡◌, Bool, true, false, List, ℕ, Result, Ok, Err}
use Rattle.model.specs.Res.{Res, ◌>>=◌}
use Rattle.model.specs.Records.{Ptr, Cell}
use Rattle.model.specs.Command.{Command, new, alloc, set, load, store, report, figure}
use Rattle.model.specs.Run.{pointer_in, added, step, stepped}
use Rattle.question.specs.declared.Question.{Question}
use Rattle.question.specs.Question.{answer}
use Rattle.value.specs.declared.Pointer.{Pointer}
use Rattle.access.specs.Access.{pointer_of}
use Rattle.registers.specs.declared.Registers.{Registers}
use Rattle.registers.specs.Cells.{Good}
use Rattle.command.specs.declared.answers.Answer.{Answer}
use Rattle.command.specs.declared.answers.Answer.TheVariants.{New}
use Rattle.command.specs.declared.State.{State}
use Rattle.command.specs.Answers.{answer_line, GoodAnswer}
use Rattle.command.specs.State.{state_of, Held, state_in, Ready}

abbrev pub target_answer : Result Pointer Question → Res Ptr
target_answer r = answer pointer_of r

-- a pointer (13), with an offset added (9)
unfoldable pub target_in : Cell → ℕ → Res Ptr
target_in c d = pointer_in c >>= λ p. added p d

abbrev pub is_new : Command → Bool
is_new (new z) = true
is_new (alloc r a) = false
is_new (set r a b o) = false
is_new (load r p d) = false
is_new (store r p d) = false
is_new report = false
is_new (figure r) = false

-- over the heap's own words
pub record Acts (c : Command) (w : List ℕ) (r : Registers) (a : Result Answer Question) (v : List ℕ) (r' : Registers) : Type 0 where
  pub stepping : stepped (state_of w r) (step c (state_of w r)) ≡ (answer_line a, state_of v r')
  pub whole : GoodAnswer a
  pub held : Held v
  pub good : Good r'

-- over a buffer with room for any heap of the program
pub record Performs (c : Command) (buffer : List ℕ) (s : State) (a : Result Answer Question) (buffer' : List ℕ) (s' : State) : Type 0 where
  pub stepping : stepped (state_in buffer s) (step c (state_in buffer s)) ≡ (answer_line a, state_in buffer' s')
  pub whole : GoodAnswer a
  pub ready : Ready buffer' s'

-- what is answered of the words of the heap that was made, and how many words then stand in the buffer
abbrev pub made_answer : Result ℕ Question → Result Answer Question
made_answer (Ok k) = Ok New
made_answer (Err q) = Err q

abbrev pub made_words : Result ℕ Question → ℕ
made_words (Ok k) = k
made_words (Err q) = 0
