use Rattle.question.proofs.Passing.{refused_as}
use Rattle.access.proofs.Writes.{young-there, young-stored, young-refused}
use Rattle.access.proofs.store_young.Goals as goal

pub put_young_cell-requires : goal.put_young_cell-requires
put_young_cell-requires c = let all = (young-there _ c.args.cell.words.now c.counted_value-old.ensures c.value_of-new.ensures c.recount.ensures c.in_ok-recount.was c.requires.i_bound) in record { image = all.0; i_bound = all.1 }

pub returns : goal.returns
returns c =
    young-stored _ c.args.cell.words.now c.counted_value-old.ensures c.value_of-new.ensures c.recount.ensures c.in_ok-recount.was c.put_young_cell.ensures

pub returns-in_err-recount : goal.returns-in_err-recount
returns-in_err-recount c =
    rw (refused_as c.from_residual.result _ c.from_residual.ensures.1)
    (young-refused _ c.args.cell.words.now c.counted_value-old.ensures c.value_of-new.ensures c.recount.ensures _ c.in_err-recount.was)
