-- The answers in the model's words: document 01's number and values for each case.
use Rattle.std.specs.Prelude.{Bool, ◌&&◌, ℕ, Result, ltb, leb}
use Rattle.model.specs.Res.{Res, ok, ◌>>=◌, ask}
use Rattle.model.specs.Figure.{Figure as ModelFigure}
use Rattle.question.specs.Question.{answer}
use Rattle.question.specs.declared.Question.{Question}
use Rattle.figure.specs.declared.Figure.{Figure}

abbrev pub model_figure : Figure → ModelFigure
model_figure f = record { negative = f.negative; thousandths = f.thousandths }

abbrev pub figured_answer : Result Figure Question → Res ModelFigure
figured_answer r = answer model_figure r

-- the figure of k thousandths: 15 asks for at most 999999.999
abbrev pub limited : Bool → ℕ → Res ModelFigure
limited s k = ask 15 (leb k 999999999) >>= λ _. ok (record { negative = s && ltb 0 k; thousandths = k })
