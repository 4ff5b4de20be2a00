-- The answers as document 01 numbers them.
use Rattle.std.specs.Prelude.{Bool, true, false, List, [], ℕ, Result, Ok, Err}
use Rattle.model.specs.Res.{Res, ok, refuse, ◌>>=◌, ask}
use Rattle.model.specs.Image.{sized, formed}
use Rattle.model.specs.Calls.{Outcome}
use Rattle.question.specs.Question.{number}
use Rattle.question.specs.declared.Question.{Question}

-- questions 1 and 2
unfoldable pub image_asked : List ℕ → Res (Unit {0})
image_asked w = ask 1 (sized w) >>= λ _. ask 2 (formed w)

unfoldable pub made_outcome : Result (Unit {0}) Question → List ℕ → Outcome
made_outcome (Ok u) w = record { answer = ok []; image = w; roots = [] }
made_outcome (Err q) w = record { answer = refuse (number q); image = w; roots = [] }

-- x if it is so
abbrev pub or_zero : Bool → ℕ → ℕ
or_zero true x = x
or_zero false x = 0
