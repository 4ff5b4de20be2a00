use Rattle.fields.proofs.Counts.{counts-read}
use native.Mathlib.Omega.{arith}
use Rattle.fields.proofs.Parts.{sized-in}
use Rattle.fields.proofs.counts_of.Goals as goal

pub slice_bounds-result-end : goal.slice_bounds-result-end
slice_bounds-result-end c = omega (arith, (sized-in c.args.image.formed).long)

pub returns : goal.returns
returns c =
    let p = c.places_of.ensures in
    counts-read _ p.counts.0 p.counts.1 p.flag.0
