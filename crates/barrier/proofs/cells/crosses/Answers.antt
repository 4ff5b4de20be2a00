use borrow.Author.Rules.{rules}
use borrow.Author.Tests.{ne_eqb}
use mathlib.Core.Path.{◌≡◌}
use mathlib.Core.Bool.{Bool, false, not}
use Prim.Native.Nat.{ℕ, ◌%◌, ◌/◌}
use lib.Dec.{eqb}
use Rattle.std.specs.Prelude.{Option, Some, None, MatchOption}
use Rattle.std.specs.Option.{SomeIff}
use Rattle.barrier.specs.Counts.{crossing}
use Rattle.barrier.proofs.cells.crosses.Goals as goal

by_heap : (tag own : ℕ) (o : Option ℕ) (r : Bool) {P : ℕ → Type 0} → SomeIff o (tag % 256 ≡ 5) (tag / 256) → MatchOption o (r ≡ false) P
    → ((h : ℕ) → P h → r ≡ not (eqb h own)) → r ≡ crossing tag own
unfolding crossing
by_heap tag own None r none said other = rw (ne_eqb _ _ none) said
by_heap tag own (Some h) r (pointer, is) said other = rw (pointer, ← is) (other h said)

pub returns : goal.returns
returns c = by_heap c.args.tag c.args.own c.heap_of.result c.is_some_and.result c.heap_of.ensures c.is_some_and.ensures (λ h said. search rules)
