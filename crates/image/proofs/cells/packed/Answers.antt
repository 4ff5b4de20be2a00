use Rattle.std.proofs.Common.{rules, tests}
use Rattle.image.proofs.Packs.{packed-split}
use Rattle.image.proofs.cells.packed.Goals as goal

pub returns-then-whole : goal.returns-then-whole
returns-then-whole c = rw (packed-split c.args.k c.args.words.now c.args.c c.requires) (search (tests, rules))

pub returns-else-whole : goal.returns-else-whole
returns-else-whole c = rw (packed-split c.args.k c.args.words.now c.args.c c.requires) (search (tests, rules))
