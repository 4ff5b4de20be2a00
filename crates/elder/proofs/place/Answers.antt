use Rattle.question.proofs.Passing.{passed_on}
use Rattle.elder.proofs.Placing.{place_none, place-asks, place-done, place-refused}
use Rattle.elder.proofs.place.Goals as goal

pub returns-in_err-b : goal.returns-in_err-b
returns-in_err-b c =
    rw (passed_on (λ n. n) c.from_residual.result _ c.from_residual.ensures.1) (place_none c.args.src _ _ c.count.ensures _ c.room_for.ensures _ c.in_err-b.was)

pub returns-in_err-count_in : goal.returns-in_err-count_in
returns-in_err-count_in c =
    rw (passed_on (λ n. n) c.from_residual-in_err-count_in.result _ c.from_residual-in_err-count_in.ensures.1)
    (place-refused c.args.src _ _ c.count.ensures _ c.room_for.ensures c.in_ok-b.was _ c.count_in.ensures _ c.in_err-count_in.was)

pub put-requires : goal.put-requires
put-requires c = let all = (place-asks c.args.src _ _ c.count.ensures _ c.room_for.ensures c.in_ok-b.was _ c.count_in.ensures _ c.in_ok-count_in.was c.requires) in record { image = all.0; b_value = all.1 }

pub returns : goal.returns
returns c = place-done c.args.src _ _ c.count.ensures _ c.room_for.ensures c.in_ok-b.was _ c.count_in.ensures _ c.in_ok-count_in.was c.put.ensures
