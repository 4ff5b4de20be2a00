use Rattle.elder.proofs.Sweeps.{with_none}
use Rattle.elder.proofs.collect_all.Goals as goal

pub returns : goal.returns
returns c = with_none c.collect_with.ensures
