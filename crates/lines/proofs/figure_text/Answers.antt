use Rattle.model.specs.Listing.{figure_word, line_text}
use Rattle.figure.proofs.Writes.{writes-both}
use Rattle.lines.proofs.figure_text.Goals as goal

pub returns : goal.returns
unfolding line_text figure_word
returns c = writes-both c.word.ensures (writes-both c.byte.ensures c.figure.ensures)
