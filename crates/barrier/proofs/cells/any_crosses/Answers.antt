use mathlib.Core.Path.{refl}
use mathlib.Core.List.{[]}
use Rattle.std.proofs.Common.{rules, tests}
use Rattle.std.proofs.lemmas.List.Recursion.{or_is}
use Rattle.barrier.proofs.Turns.{crossing_cell, crossing_cells, crossing-cut}
use Rattle.barrier.proofs.cells.any_crosses.Goals as goal

pub returns : goal.returns
returns c =
    rw (crossing-cut c.args.own c.args.cells.now, ← c.as_chunks.ensures.front)
    (or_is (crossing_cells c.args.own) (crossing_cell c.args.own) refl (λ _ _. refl) c.as_chunks.result.0.now [] _ (search (tests, rules)) (search (tests, rules)))
