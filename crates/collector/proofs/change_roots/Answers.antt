use Rattle.collector.proofs.Changed.{lists-hold}
use Rattle.collector.proofs.Ending.{roots-whole}
use Rattle.collector.proofs.change_roots.Goals as goal

pub change_roots-requires : goal.change_roots-requires
change_roots-requires c = roots-whole _ c.requires.roots_value

pub returns : goal.returns
returns c = rw (c.members.ensures, c.bases.ensures, lists-hold c.args.image.words.now c.args.roots.now c.args.scratch.now c.requires.roots_in_bounds c.requires.moved_in_bounds c.of-p.ensures) at c.change_roots.ensures
