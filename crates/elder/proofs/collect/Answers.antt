use Rattle.trace.proofs.Chunks.{listed-cut}
use Rattle.elder.proofs.Sweeps.{with-members}
use Rattle.elder.proofs.collect.Goals as goal

pub returns : goal.returns
returns c =
    with-members _ _ _ c.members-count.ensures.are (rw (listed-cut _ _ c.members-count.ensures.fits) at c.collect_with.ensures.does)
