use lib.ListN.{drop}
use Rattle.model.specs.Reach.{enter}
use Rattle.model.specs.Records.{same_ptr}
use Rattle.model.specs.Lists.{places}
use Rattle.model.specs.Nursery.{matched}
use Rattle.trace.specs.Entered.{entries}
use Rattle.trace.proofs.Entering.{Entering}
use Rattle.trace.proofs.Members.enter_matched.Given as goal

abbrev pub invariant-loop-b : goal.invariant-loop-b
invariant-loop-b l = Entering (matched l.own l.masks (places l.b (drop l.b l.lens))) (enter same_ptr (entries l.initial.self) (matched l.own l.masks (places 0 l.lens))) l.initial.self l.self
