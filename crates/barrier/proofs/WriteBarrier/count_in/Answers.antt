use mathlib.Core.Path.{◌≡◌, ◌∙◌}
use Rattle.question.specs.declared.Question.TheVariants.{Bound}
use Rattle.barrier.specs.Counts.{barrier_of}
use Rattle.question.proofs.Passing.{passed_on}
use Rattle.barrier.proofs.Steps.{steps-in, step-none, step_some, Opened, opened-absent, opened-present, up-full, up_more}
use Rattle.barrier.proofs.WriteBarrier.count_in.Goals as goal
use Rattle.barrier.proofs.WriteBarrier.count_in.Goals.{Joined-not-self, then-not-self, else-not-self}

-- the barrier once it is known to be present
opened : (c : Joined-not-self) → Opened c.args.self c.if-not-self.self
opened c =
    let b = c.args.self in
    elim c.if-not-self.branch [
      | then-not-self w ↦ opened-absent b c.if-not-self.self w.if-not-self.true w.self-is
      | else-not-self w ↦ opened-present b c.if-not-self.self w.if-not-self.false w.self-is
    ]

pub returns-in_default : goal.returns-in_default
returns-in_default c =
    let a = c.args in
    step-none (steps-in a.own) (barrier_of a.self) a.v c.in_default.ensures

pub returns-in_err-self : goal.returns-in_err-self
returns-in_err-self c =
    let a = c.args in
    let k = c.place-at in
    let j = (goal.at.returns-in_err-self c).Joined-not-self in
    let none = c.in_err-self.ensures.ok_part in
    let asked = rw none at c.in_err-self.ensures.value in
    let is : c.in_err-self.field-0.0 ≡ Bound = cc in
    passed_on _ c.from_residual.result _ c.from_residual.ensures.1
    ∙ rw is (up-full a.self j.if-not-self.self (opened j) k.result (rw none at c.checked_add.ensures))
    ∙ step_some (steps-in a.own) (barrier_of a.self) a.v c.in-Some.p c.in-Some.ensures k.result k.ensures

pub returns : goal.returns
returns c =
    let a = c.args in
    let k = c.place-at in
    let j = (goal.at.returns c).Joined-not-self in
    let (room, is) = rw c.in_ok-self.ensures.ok_part at c.checked_add.ensures in
    rw is (up_more a.self j.if-not-self.self (opened j) k.result room)
    ∙ step_some (steps-in a.own) (barrier_of a.self) a.v c.in-Some.p c.in-Some.ensures k.result k.ensures
