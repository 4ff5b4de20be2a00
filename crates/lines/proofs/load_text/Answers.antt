use Rattle.model.specs.Listing.{load_word, line_text}
use Rattle.figure.proofs.Writes.{writes-both}
use Rattle.lines.proofs.load_text.Goals as goal

pub returns : goal.returns
unfolding line_text load_word
returns c = rw (← c.cell_numbers.ensures) (writes-both c.word.ensures c.each_spaced.ensures)
