use Rattle.listing.proofs.Starting.{begins}
use Rattle.listing.proofs.begin.Goals as goal

pub returns : goal.returns
returns c = λ file buffer. begins file buffer c.new.result c.new.ensures.cells c.new.ensures.good
