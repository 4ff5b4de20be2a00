use Rattle.std.proofs.Common.{arith}
use Rattle.fields.proofs.Parts.{n-of}
use Rattle.cycle.proofs.Lending.{image-long, size-is}
use Rattle.cycle.proofs.scratch.Parts.of.Goals as goal

pub returns : goal.returns
returns c =
    let long = image-long c.args.image.formed in
    let n = size-is c.args.image.formed (n-of c.header_of-n.ensures.sizes) in
    record { members = long; bases = omega arith; elder = omega arith }
