use Rattle.layout.proofs.Tail.{image-says-sized}
use Rattle.layout.proofs.put.Goals as goal

pub layout_of-l-requires : goal.layout_of-l-requires
layout_of-l-requires c = image-says-sized c.requires.image
