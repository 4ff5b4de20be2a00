use Rattle.report.proofs.Taking.{counts_small, counts_sum}
use Rattle.report.proofs.references.Goals as goal

pub sum-requires : goal.sum-requires
sum-requires c = counts_small c.args.own c.counts_of.ensures c.args.image.formed

pub returns : goal.returns
returns c = counts_sum c.args.own c.counts_of.ensures c.sum.ensures
