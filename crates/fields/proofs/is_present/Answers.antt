use Rattle.fields.proofs.Counts.{present-read}
use Rattle.fields.proofs.is_present.Goals as goal

pub returns : goal.returns
returns c = present-read _ c.places_of.ensures.flag.0
