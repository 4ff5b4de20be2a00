use Rattle.collector.proofs.Changed.{lists-hold}
use Rattle.collector.proofs.change_heap.Goals as goal

pub returns : goal.returns
returns c = rw (c.members.ensures, c.bases.ensures, lists-hold c.args.image.now c.args.roots.now c.args.scratch.now c.requires.roots_in_bounds c.requires.moved_in_bounds c.of-p.ensures) at c.change_all.ensures
