use mathlib.Core.Path.{refl}
use lib.Dec.{leb}
use Rattle.std.proofs.Common.{rules, tests}
use Rattle.std.proofs.lemmas.List.Recursion.{and_is}
use Rattle.model.specs.Lists.{all_at_most}
use Rattle.image.proofs.counts.at_most.Goals as goal

pub returns : goal.returns
unfolding all_at_most
returns c =
    let m = c.args.m in
    and_is (all_at_most m) (λ x. leb x m) refl (λ _ _. refl) c.args.words.now 0 _ (search (tests, rules)) (search (tests, rules))
