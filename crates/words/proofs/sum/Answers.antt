use Rattle.std.proofs.Common.{rules}
use Rattle.words.proofs.Sums.{sum_is}
use Rattle.words.proofs.sum.Goals as goal

pub sum-requires-clause-fits : goal.sum-requires-clause-fits
sum-requires-clause-fits c = let e = sum_is c.args.w.now in search rules

pub returns : goal.returns
returns c = let e = sum_is c.args.w.now in search rules
