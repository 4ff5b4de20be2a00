use Rattle.model.specs.Listing.{no_word, line_text}
use Rattle.figure.proofs.Writes.{writes-both}
use Rattle.lines.proofs.refusal_text.Goals as goal

pub returns : goal.returns
unfolding line_text no_word
returns c = writes-both c.word.ensures c.spaced.ensures
