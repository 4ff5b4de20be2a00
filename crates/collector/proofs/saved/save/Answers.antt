use Rattle.std.proofs.Common.{ap, ◌∙◌}
use Rattle.model.specs.Lists.{sum}
use Rattle.layout.proofs.Tail.{image-says-sized}
use Rattle.collector.proofs.Saves.{saved-to}
use Rattle.collector.proofs.saved.save.Goals as goal

pub layout_of-l-requires : goal.layout_of-l-requires
layout_of-l-requires c = image-says-sized c.args.image.formed

pub returns : goal.returns
returns c = saved-to c.args.image.formed c.layout_of-l.ensures _ (c.sum.ensures ∙ ap sum c.slot_lengths.ensures) _ c.copy_words.ensures
