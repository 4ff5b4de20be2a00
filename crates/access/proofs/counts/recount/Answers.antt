use mathlib.Core.Path.{sym, ◌∙◌}
use Rattle.access.proofs.Counted.{neither}
use Rattle.access.proofs.Crossing.{apart}
use Rattle.access.proofs.counts.recount.Goals as goal

pub returns : goal.returns
returns c =
    neither c.requires _ _ _
    (apart c.args.own c.args.old _ c.crossing.ensures (sym c.is_some.ensures ∙ c.if-is_some.false))
    (apart c.args.own c.args.new _ c.crossing-else-is_some.ensures (sym c.is_some-else-is_some.ensures ∙ c.if-is_some-2.false))
