use Rattle.fields.proofs.Counts.{bar-loads, bar-read}
use native.Mathlib.Omega.{arith}
use Rattle.fields.proofs.Parts.{sized-in}
use Rattle.fields.proofs.barrier_of.Goals as goal

pub slice_bounds-load-end : goal.slice_bounds-load-end
slice_bounds-load-end c = omega (arith, (sized-in c.args.image.formed).long)

pub load-requires : goal.load-requires
load-requires c =
    let p = c.places_of-p.ensures in
    bar-loads _ p.counts.0 p.counts.1 p.flag.0 c.args.image.formed

pub returns : goal.returns
returns c =
    let p = c.places_of-p.ensures in
    bar-read _ p.counts.0 p.counts.1 p.flag.0 c.load.ensures
