use Rattle.image.proofs.Parts.{old-done}
use Rattle.image.proofs.form.Measured.old.Goals as goal

pub returns : goal.returns
returns c =
    old-done c.args.self.words.now c.layout_of-l.ensures c.slot_lengths.ensures c.elder_cells.ensures c.sum_to-k.ensures c.packed.ensures
