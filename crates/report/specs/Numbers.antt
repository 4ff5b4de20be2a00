-- The report's numbers as document 01 lists them, and its answers.
use Rattle.std.specs.Prelude.{◌≡◌, List, [], ◌∷◌, ℕ, Result, Err}
use Rattle.model.specs.Res.{Res}
use Rattle.model.specs.Calls.{Outcome}
use Rattle.question.specs.Question.{answer}
use Rattle.question.specs.declared.Question.{Question}
use Rattle.report.specs.declared.Nursery.{Nursery}
use Rattle.report.specs.declared.Elder.{Elder}
use Rattle.report.specs.declared.Statistics.{Statistics}

unfoldable pub young_numbers : Nursery → List ℕ
young_numbers y = y.collections ∷ y.allocations ∷ y.cells ∷ y.references ∷ y.free ∷ y.promotions ∷ []

unfoldable pub old_numbers : Elder → List ℕ
old_numbers e = e.collections ∷ e.allocations ∷ e.cells ∷ e.references ∷ []

unfoldable pub numbers : Statistics → List ℕ
numbers s =
    let y = s.nursery in
    let e = s.elder in
    y.collections ∷ y.allocations ∷ y.cells ∷ y.references ∷ y.free ∷ y.promotions ∷ e.collections ∷ e.allocations ∷ e.cells ∷ e.references ∷ s.leak ∷ []

unfoldable pub report_outcome : Result Statistics Question → List ℕ → Outcome
report_outcome r v = record { answer = answer numbers r; image = v; roots = [] }

-- what is answered through a record that the caller lends
unfoldable pub record_answer : Result (Unit {0}) Question → Statistics → Res (List ℕ)
record_answer r s = answer (λ u. numbers s) r

-- the report is in the record, or the record is as it was
pub record Fills (o : Outcome) (old : Statistics) (r : Result (Unit {0}) Question) (new : Statistics) (v : List ℕ) : Type 0 where
  pub outcome : o ≡ record { answer = record_answer r new; image = v; roots = [] }
  pub kept : (q : Question) → r ≡ Err q → new ≡ old
