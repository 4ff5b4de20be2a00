use Rattle.question.proofs.Passing.{refused_as}
use Rattle.elder.proofs.Sweeps.{counter-full, sweep-asks, with-done, with-refused}
use Rattle.elder.proofs.collect_with.Goals as goal

pub returns-then-header_of-ge-MOST : goal.returns-then-header_of-ge-MOST
returns-then-header_of-ge-MOST c = counter-full _ c.header_of.ensures.old_collections c.if-header_of-ge-MOST.true

pub sweep-requires : goal.sweep-requires
sweep-requires c =
    let others = sweep-asks _ c.header_of.ensures.old_collections c.if-header_of-ge-MOST.false c.count_dropped.result c.count_dropped.ensures _ c.in_ok-b.was c.requires in record {
      image = c.requires;
      fit_barrier = others.0;
      image_bound = others.1;
    }

pub returns : goal.returns
returns c =
    with-done _ c.header_of.ensures.old_collections c.if-header_of-ge-MOST.false c.count_dropped.result c.count_dropped.ensures _ c.in_ok-b.was c.sweep.ensures

pub returns-in_err-b : goal.returns-in_err-b
returns-in_err-b c =
    rw (refused_as c.from_residual.result _ c.from_residual.ensures.1) (with-refused _ c.header_of.ensures.old_collections c.if-header_of-ge-MOST.false c.count_dropped.result c.count_dropped.ensures _ c.in_err-b.was)
