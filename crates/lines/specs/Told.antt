-- The line of an answer, or of a refusal's number, whichever it is.
use Rattle.std.specs.Prelude.{ℕ, Result, Ok, Err}
use Rattle.model.specs.Run.{Line, no_line}
use Rattle.command.specs.declared.answers.Answer.{Answer}
use Rattle.command.specs.Answers.{answer_line}

abbrev pub told : Result Answer ℕ → Line
told (Ok a) = answer_line (Ok a)
told (Err q) = no_line q
