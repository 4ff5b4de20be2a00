use mathlib.Core.List.{map}
use Prim.Native.Nat.{◌*◌}
use lib.ListN.{drop}
use Rattle.model.specs.Lists.{flat}
use Rattle.model.specs.Reach.{enter}
use Rattle.model.specs.Records.{same_ptr, cells_of, pointers_to}
use Rattle.trace.specs.Entered.{entries}
use Rattle.trace.proofs.Entering.{Entering}
use Rattle.trace.proofs.Generation.scan.Given as goal

abbrev pub invariant-loop-cell : goal.invariant-loop-cell
invariant-loop-cell l = Entering (flat (map (λ e. pointers_to l.self.own (cells_of 1 e)) (drop l.cell-index l.cells))) (enter same_ptr (entries l.initial.members) (pointers_to l.self.own (cells_of l.len (drop (3 * l.from) l.self.cells.now)))) l.initial.members l.members
