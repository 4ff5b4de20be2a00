use mathlib.Core.Path.{ap, ◌∙◌}
use Rattle.heap_c.specs.Replies.{figure_words, figure_answer}
use Rattle.figure.specs.Answer.{model_figure}
use Rattle.heap_c.proofs.Replying.{words-of-answer, answers-as}
use Rattle.heap_c.proofs.heap_figure.Goals as goal

pub returns : goal.returns
unfolding figure_answer
returns c = answers-as (words-of-answer model_figure figure_words _ ∙ ap figure_answer c.figure_of_bits.ensures) c.answer.ensures
