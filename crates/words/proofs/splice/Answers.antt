use Rattle.words.proofs.Laws.{spliced-zeros, spliced-given}
use Rattle.words.proofs.splice.Goals as goal

pub returns-in-Zeros : goal.returns-in-Zeros
returns-in-Zeros c = spliced-zeros _ _ _ _ _ (c.args.hole.inside, c.requires.bound.0, c.requires.bound.1) _ c.len.ensures c.open_place.ensures _ c.in-Zeros.is c.zero_words.ensures

pub returns-in-Given : goal.returns-in-Given
returns-in-Given c = spliced-given _ _ _ _ _ (c.args.hole.inside, c.requires.bound.0, c.requires.bound.1) _ c.len.ensures c.open_place.ensures _ c.in-Given.is c.copy_words.ensures
