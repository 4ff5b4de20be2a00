use mathlib.Core.Path.{refl}
use mathlib.Core.List.{[]}
use Rattle.std.proofs.Common.{rules, tests}
use Rattle.std.proofs.lemmas.List.Recursion.{and_is}
use Rattle.image.proofs.Bounds.{said-no, said-yes}
use Rattle.image.proofs.Scans.{valid_cell, valid_cells, whole-cut}
use Rattle.image.proofs.cells.whole.Goals as goal

pub returns-then-is_empty : goal.returns-then-is_empty
returns-then-is_empty c =
    let all = rw c.as_chunks.ensures.back_len at (said-yes c.is_empty.ensures c.if-is_empty.true) in
    rw (whole-cut c.args.words.now, all, ← c.as_chunks.ensures.front)
    (and_is valid_cells valid_cell refl (λ _ _. refl) c.as_chunks.result.0.now [] _ (search (tests, rules)) (search (tests, rules)))

pub returns-else-is_empty : goal.returns-else-is_empty
returns-else-is_empty c =
    let rest = rw c.as_chunks.ensures.back_len at (said-no c.is_empty.ensures c.if-is_empty.false) in
    rw (whole-cut c.args.words.now, rest) c.if-is_empty.false
