use mathlib.Core.Path.{sym, ap, ◌∙◌}
use mathlib.Core.List.{[], ◌∷◌}
use mir.Syntax.{w64}
use mir.Val.{of_z}
use Rattle.model.specs.Image.{decode}
use Rattle.model.specs.Collector.{read}
use Rattle.model.specs.Calls.{read_on}
use Rattle.model.specs.Records.{cell_words}
use Rattle.value.specs.Value.{value_cell}
use Rattle.access.specs.Access.{loaded_cell}
use Rattle.trace.specs.Words.{pointer}
use Rattle.heap_c.specs.Replies.{words_of}
use Rattle.heap_c.proofs.Replying.{as-given, words-of-answer, answers-as}
use Rattle.heap_c.proofs.heap_read_formed.Goals as goal

pub returns : goal.returns
unfolding read_on words_of loaded_cell
returns c =
    let given = as-given c.args.offset c.ranges.offset (λ x. read (decode c.args.image.now) (pointer c.args.heap c.args.base (of_z w64 x))) (sym c.read_formed.ensures.cell) in
    answers-as (words-of-answer value_cell (λ c. cell_words (c ∷ [])) _ ∙ ap words_of (sym given)) c.answer.ensures
