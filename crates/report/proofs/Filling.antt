-- The report in a record that the caller lends.
use mathlib.Core.Path.{◌≡◌, refl, ◌∙◌}
use mathlib.Core.List.{List}
use Prim.Native.Nat.{ℕ}
use native.Mathlib.Omega.{arith}
use Rattle.std.proofs.Common.{Result, Ok, Err}
use Rattle.std.specs.Result.{IsErrAnd}
use Rattle.model.specs.Calls.{Outcome}
use Rattle.question.specs.declared.Question.{Question}
use Rattle.question.proofs.Passing.{refused_as}
use Rattle.report.specs.Numbers.{report_outcome, record_answer, Fills}
use Rattle.report.specs.declared.Statistics.{Statistics}

module _ {o : Outcome} {v : List ℕ} where
  -- a report that was made
  pub filled : {r : Result Statistics Question} {s old : Statistics} → o ≡ report_outcome r v → r ≡ Ok s → Fills o old (Ok tt) s v
  unfolding report_outcome record_answer
  filled e k = record { outcome = rw k at e; kept = λ q n. let z : ◌≡◌ {A = ℕ} 0 1 = cc in absurd (omega arith) }

  -- one that was refused, as `?` passes it on
  pub not-filled : {x : Result (Unit {0}) Question} {r : Result Statistics Question} {q : Question} {old : Statistics} → o ≡ report_outcome r v → r ≡ Err q → IsErrAnd x (λ y. y ≡ q) → Fills o old x old v
  unfolding report_outcome record_answer
  not-filled {x} {q = q} e k p = rw (refused_as x q p) (record { outcome = rw k at e; kept = λ p n. refl })

  pub taken : {r : Result (Unit {0}) Question} {s old : Statistics} → Fills o old r s v → r ≡ Ok tt → o ≡ report_outcome (Ok s) v
  unfolding report_outcome record_answer
  taken f k = rw k at f.outcome

  pub refused : (x : Result Statistics Question) {r : Result (Unit {0}) Question} {q : Question} {s old : Statistics} → Fills o old r s v → r ≡ Err q → IsErrAnd x (λ y. y ≡ q) → o ≡ report_outcome x v
  unfolding report_outcome record_answer
  refused x {q = q} f k p = rw (refused_as x q p) (rw k at f.outcome)

  -- the same of a call
  pub fills-as : {p : Outcome} {r : Result (Unit {0}) Question} {s old : Statistics} → p ≡ o → Fills o old r s v → Fills p old r s v
  fills-as e f = record { outcome = e ∙ f.outcome; kept = f.kept }

-- what the functions that lend a record need
pub ruleset lending = (filled, not-filled, taken, refused)
