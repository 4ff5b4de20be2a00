use borrow.Author.Rules.{rules}
use Rattle.slots.proofs.Writes.{write-made}
use Rattle.slots.proofs.Slots.write.Goals as goal

pub returns : goal.returns
returns c = record {
  changed = write-made c.args.cell.words.now c.args.cell.one c.args.cell.whole c.requires.elder _ _ c.requires.o_in_bounds _ (rw c.lens.ensures at c.sum.ensures) c.copy_words.ensures;
  same = search rules;
}
