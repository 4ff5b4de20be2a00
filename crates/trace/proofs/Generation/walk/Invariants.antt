use mathlib.Core.Path.{◌≡◌}
use mathlib.Core.List.{List}
use Prim.Native.Nat.{ℕ, ◌*◌, ◌≤◌, ◌-◌}
use lib.ListN.{length}
use Rattle.model.specs.Reach.{walk}
use Rattle.model.specs.Records.{Ptr, same_ptr}
use Rattle.trace.specs.declared.Members.{Members}
use Rattle.trace.specs.Entered.{entries}
use Rattle.trace.specs.Leads.{leads_to}
use Rattle.trace.proofs.Generation.walk.Given as goal

-- The walk has come to entry p: what is left leads to the goal. Its fuel is the words' number, which is above the goal's length.
pub record Walking (step : Ptr → List Ptr) (goal : List Ptr) (l₀ l : Members) (p : ℕ) : Type 0 where
  pub is : walk same_ptr step (length l₀.words.now - p) p (entries l) ≡ goal
  pub fits : 3 * length goal ≤ length l₀.words.now
  pub below : 3 * l.count ≤ length l₀.words.now
  pub len : length l.words.now ≡ length l₀.words.now
  pub same : l.words.ghost_name ≡ l₀.words.ghost_name

abbrev pub invariant-loop-p : goal.invariant-loop-p
invariant-loop-p l = Walking (leads_to l.self.own l.self.lens.now l.self.cells.now) (walk same_ptr (leads_to l.self.own l.self.lens.now l.self.cells.now) (length l.initial.members.words.now) 0 (entries l.initial.members)) l.initial.members l.members l.p

abbrev pub decreases-loop-p : goal.decreases-loop-p
decreases-loop-p l = length l.initial.members.words.now - l.p
