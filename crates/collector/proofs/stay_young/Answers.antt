use Rattle.std.proofs.Common.{◌≡◌, rules}
use Rattle.collector.proofs.Asking.{stays-young}
use Rattle.collector.proofs.stay_young.Goals as goal

pub returns : goal.returns
returns c =
    let nursery : c.default.result ≡ record { collections = 0; visits = 0 } = search rules in
    let elder : c.default-2.result ≡ record { collections = 0; visits = 0 } = search rules in
    rw (nursery, elder) (stays-young c.requires.image c.bump-base.ensures.base c.bump-base.ensures.turns c.requires.amount_nonzero)
