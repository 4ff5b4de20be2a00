-- The answers in the model's words: document 01's number and values for each case.
use Rattle.std.specs.Prelude.{[], ◌∷◌, Result, Ok, Err}
use Rattle.model.specs.Run.{Line, new_line, alloc_line, set_line, load_line, store_line, report_line, figure_line, no_line}
use Rattle.question.specs.declared.Question.{Question}
use Rattle.question.specs.Question.{number}
use Rattle.value.specs.Value.{value_cell}
use Rattle.access.specs.Access.{pointer_of}
use Rattle.figure.specs.Answer.{model_figure}
use Rattle.report.specs.Numbers.{numbers}
use Rattle.registers.specs.Cells.{GoodValue}
use Rattle.command.specs.declared.answers.Answer.{Answer}
use Rattle.command.specs.declared.answers.Answer.TheVariants.{New, Alloc, Set, Load, Store, Report, Figure}

abbrev pub answer_line : Result Answer Question → Line
answer_line (Ok New) = new_line
answer_line (Ok (Alloc a)) = alloc_line (pointer_of a.pointer) (a.nursery.collections ∷ a.nursery.visits ∷ a.elder.collections ∷ a.elder.visits ∷ [])
answer_line (Ok Set) = set_line
answer_line (Ok (Load v)) = load_line (value_cell v)
answer_line (Ok Store) = store_line
answer_line (Ok (Report s)) = report_line (numbers s)
answer_line (Ok (Figure f)) = figure_line (model_figure f)
answer_line (Err q) = no_line (number q)

-- a line tells of a loaded value no more than its cell: the value is the one that the cell's words spell
abbrev pub GoodAnswer : Result Answer Question → Type 0
GoodAnswer (Ok New) = Unit {0}
GoodAnswer (Ok (Alloc a)) = Unit {0}
GoodAnswer (Ok Set) = Unit {0}
GoodAnswer (Ok (Load v)) = GoodValue v
GoodAnswer (Ok Store) = Unit {0}
GoodAnswer (Ok (Report s)) = Unit {0}
GoodAnswer (Ok (Figure f)) = Unit {0}
GoodAnswer (Err q) = Unit {0}
