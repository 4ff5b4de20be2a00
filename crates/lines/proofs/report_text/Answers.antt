use Rattle.model.specs.Listing.{report_word, line_text}
use Rattle.figure.proofs.Writes.{writes-both}
use Rattle.lines.proofs.report_text.Goals as goal

pub returns : goal.returns
unfolding line_text report_word
returns c = rw (← c.from.ensures) (writes-both c.word.ensures c.each_spaced.ensures)
