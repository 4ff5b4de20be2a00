-- A refusal that `?` passes on.
use Rattle.std.proofs.Common.{◌≡◌, Result, Err, ap, ◌∙◌}
use Rattle.std.specs.Result.{IsErrAnd}
use Rattle.std.proofs.lemmas.Result.{err_from_is_err_and}
use Rattle.model.specs.Res.{refuse}
use Rattle.question.specs.Question.{number, answer}
use Rattle.question.specs.declared.Question.{Question}

-- it is answered as it came
pub passed_on : {T A : Type 0} (f : T → A) (r : Result T Question) (q : Question) → IsErrAnd r (λ y. y ≡ q) → answer f r ≡ refuse (number q)
passed_on f r q e = let p = err_from_is_err_and r e in rw (p.1, p.2)

-- it is the refusal that came
pub refused_as : {T : Type 0} (r : Result T Question) (q : Question) → IsErrAnd r (λ y. y ≡ q) → r ≡ Err q
refused_as r q e = let p = err_from_is_err_and r e in p.1 ∙ ap Err p.2
