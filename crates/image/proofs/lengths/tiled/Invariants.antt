use Rattle.model.specs.Image.{tiles}
use Rattle.image.proofs.Fills.{Filling}
use Rattle.image.proofs.lengths.tiled.Given as goal

abbrev pub invariant-loop-x : goal.invariant-loop-x
invariant-loop-x l = Filling l.lengths (tiles l.cursor 0 l.lengths) l.left l.skip l.x-index
