use borrow.Author.Rules.{rules}
use Rattle.slots.proofs.Counts.{read_out, read_past, read_fits, read-room, read_cell}
use Rattle.slots.proofs.read_old.Goals as goal

pub returns-in_err-get : goal.returns-in_err-get
returns-in_err-get c = read_out c.requires _ _ c.in_err-get.ensures.lookup.3 c.from_residual.ensures

pub returns-then-branch-offset : goal.returns-then-branch-offset
returns-then-branch-offset c = read_past c.requires _ _ c.in_ok-get.ensures.lookup.3 (search rules)

pub overflow_add-sum : goal.overflow_add-sum
overflow_add-sum c = read_fits c.requires _ _ c.in_ok-get.ensures.lookup.3 (search rules) c.sum.result c.sum.ensures (search rules)

pub at-requires : goal.at-requires
at-requires c = read-room c.requires _ _ c.in_ok-get.ensures.lookup.3 (search rules) c.sum.result c.sum.ensures

pub returns : goal.returns
returns c = read_cell c.requires _ _ c.in_ok-get.ensures.lookup.3 (search rules) c.sum.result c.sum.ensures c.at.ensures
