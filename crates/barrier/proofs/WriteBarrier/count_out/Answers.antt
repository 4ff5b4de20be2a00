use mathlib.Core.Path.{◌≡◌, refl, ◌∙◌}
use Rattle.question.specs.declared.Question.TheVariants.{Count}
use Rattle.barrier.specs.Counts.{barrier_of}
use Rattle.question.proofs.Passing.{passed_on}
use Rattle.barrier.proofs.Steps.{steps-out, step-none, step_some, down-absent, down-none, down-less}
use Rattle.barrier.proofs.WriteBarrier.count_out.Goals as goal

pub returns-in_default : goal.returns-in_default
returns-in_default c =
    let a = c.args in
    step-none (steps-out a.own) (barrier_of a.self) a.v c.in_default.ensures

pub returns-then-not-self : goal.returns-then-not-self
returns-then-not-self c =
    let a = c.args in
    down-absent a.self _ c.if-not-self.true ∙ step_some (steps-out a.own) (barrier_of a.self) a.v c.in-Some.p c.in-Some.ensures _ refl

pub returns-in_err-self : goal.returns-in_err-self
returns-in_err-self c =
    let a = c.args in
    let k = c.place-at in
    let none = c.in_err-self.ensures.ok_part in
    let asked = rw none at c.in_err-self.ensures.value in
    let is : c.in_err-self.field-0.0 ≡ Count = cc in
    passed_on _ c.from_residual.result _ c.from_residual.ensures.1
    ∙ rw is (down-none a.self k.result c.if-not-self.false (rw none at c.checked_sub.ensures))
    ∙ step_some (steps-out a.own) (barrier_of a.self) a.v c.in-Some.p c.in-Some.ensures k.result k.ensures

pub returns : goal.returns
returns c =
    let a = c.args in
    let k = c.place-at in
    let (some, is) = rw c.in_ok-self.ensures.ok_part at c.checked_sub.ensures in
    rw is (down-less a.self k.result c.if-not-self.false some)
    ∙ step_some (steps-out a.own) (barrier_of a.self) a.v c.in-Some.p c.in-Some.ensures k.result k.ensures
