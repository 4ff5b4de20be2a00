use Rattle.collector.proofs.Asking.{scratch-bounds, few-roots}
use Rattle.collector.proofs.scratch_for.Goals as goal

pub scratch_length-requires : goal.scratch_length-requires
scratch_length-requires c =
    let b = scratch-bounds c.args.image.formed c.header_of.ensures.sizes in (b.n, b.s, b.c, few-roots c.args.roots.now c.requires)

pub returns : goal.returns
returns c = rw (c.header_of.ensures.sizes.reads _ c.args.image.formed) c.scratch_length.ensures
