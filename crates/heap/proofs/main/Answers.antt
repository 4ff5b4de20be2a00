use native.Mathlib.Omega.{arith}
use lib.Seq.{length-take-le}
use Rattle.model.specs.Listing.{longest_file}
use Rattle.heap.proofs.main.Goals as goal

pub print_all-requires : goal.print_all-requires
unfolding longest_file
print_all-requires c =
    let call = c.read_all in
    let stops = call.ensures in
    omega (arith, stops.within, call.auto.file, length-take-le call.new.input.len call.new.file stops.within)
