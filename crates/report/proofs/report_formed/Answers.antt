use Rattle.question.proofs.Passing.{refused_as}
use Rattle.report.proofs.Clearing.{young-full, empty-asks, report-done, report-refused}
use Rattle.report.proofs.report_formed.Goals as goal

pub returns-then-collections-ge-MOST : goal.returns-then-collections-ge-MOST
returns-then-collections-ge-MOST c = young-full _ c.take_numbers-s.ensures c.requires c.if-collections-ge-MOST.true

pub empty_nursery-requires : goal.empty_nursery-requires
empty_nursery-requires c = let all = (empty-asks _ c.take_numbers-s.ensures c.requires c.if-collections-ge-MOST.false c.collect_all.ensures _ c.in_ok-collect_all.was) in record { image = all.0; image_bound = all.1 }

pub returns : goal.returns
returns c =
    report-done _ c.take_numbers-s.ensures c.requires c.if-collections-ge-MOST.false c.collect_all.ensures _ c.in_ok-collect_all.was c.empty_nursery.ensures

pub returns-in_err-collect_all : goal.returns-in_err-collect_all
returns-in_err-collect_all c =
    rw (refused_as c.from_residual.result _ c.from_residual.ensures.1)
    (report-refused _ c.take_numbers-s.ensures c.requires c.if-collections-ge-MOST.false c.collect_all.ensures _ c.in_err-collect_all.was)
