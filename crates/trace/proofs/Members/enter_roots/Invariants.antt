use mathlib.Core.List.{map}
use lib.ListN.{drop}
use Rattle.model.specs.Lists.{flat}
use Rattle.model.specs.Reach.{enter}
use Rattle.model.specs.Records.{same_ptr, cells_of, pointers}
use Rattle.model.specs.Calls.{cells_in}
use Rattle.trace.specs.Entered.{entries}
use Rattle.trace.proofs.Entering.{Entering}
use Rattle.trace.proofs.Members.enter_roots.Given as goal

abbrev pub invariant-loop-cell : goal.invariant-loop-cell
invariant-loop-cell l = Entering (flat (map (λ e. pointers (cells_of 1 e)) (drop l.cell-index l.cells))) (enter same_ptr (entries l.initial.self) (pointers (cells_in l.roots))) l.initial.self l.self
