-- A report of a heap that is held is the step's.
use mathlib.Core.Path.{◌≡◌, refl, sym, ap, ◌∙◌}
use mathlib.Core.List.{List}
use mathlib.Core.Option.{some}
use Prim.Native.Nat.{ℕ, ◌<◌}
use lib.ListN.{length}
use Rattle.model.specs.Res.{Res, ok, refuse, ◌>>=◌}
use Rattle.model.specs.Heap.{Heap}
use Rattle.model.specs.Image.{encode, decode}
use Rattle.model.specs.Collector.{report as report_of}
use Rattle.model.specs.Calls.{Outcome, reported}
use Rattle.model.specs.Command.{report}
use Rattle.model.specs.Run.{holding, report_line, step}
use Rattle.theorems.proofs.Res.{holds_at}
use Rattle.theorems.proofs.Collect.{good-heap-fit}
use Rattle.theorems.proofs.Calls.{Left, report-left}
use Rattle.theorems.proofs.Kept.{fit-good, refused-ok}
use Rattle.std.proofs.Common.{Result, Ok, Err}
use Rattle.question.specs.Question.{number}
use Rattle.question.specs.declared.Question.{Question}
use Rattle.question.specs.declared.Question.TheVariants.{Heap as NoHeap}
use Rattle.report.specs.Numbers.{numbers, report_outcome}
use Rattle.report.specs.declared.Statistics.{Statistics}
use Rattle.registers.specs.declared.Registers.{Registers}
use Rattle.registers.specs.Cells.{cells_of_registers, Good}
use Rattle.command.specs.declared.answers.Answer.{Answer}
use Rattle.command.specs.declared.answers.Answer.TheVariants as answer
use Rattle.command.specs.State.{state_of, Held}
use Rattle.command.specs.Steps.{Acts}
use Rattle.command.proofs.Heaps.{no-heap, the_heap_lem, refuses, answers, heap-encoded, held_after}

module _ (w v : List ℕ) where
  same-report : (s : Statistics) (m : Res (List ℕ × Heap)) → reported w m ≡ report_outcome (Ok s) v → (x : List ℕ × Heap) × (m ≡ ok x) × (numbers s ≡ x.0) × (v ≡ encode x.1)
  unfolding reported report_outcome
  same-report s (ok x) e =
      let answer : ok x.0 ≡ ok (numbers s) = ap (λ (o : Outcome). o.answer) e in
      let same : numbers s ≡ x.0 = cc in
      (x, refl, same, sym (ap (λ (o : Outcome). o.image) e))
  same-report s (refuse q) e = absurd (refused-ok (ap (λ (o : Outcome). o.answer) e))

  same-refusal : (q : Question) (m : Res (List ℕ × Heap)) → reported w m ≡ report_outcome (Err q) v → (m ≡ refuse (number q)) × (v ≡ w)
  unfolding reported report_outcome
  same-refusal q (ok x) e = absurd (refused-ok (sym (ap (λ (o : Outcome). o.answer) e)))
  same-refusal q (refuse p) e =
      let answer : refuse p ≡ refuse (number q) = ap (λ (o : Outcome). o.answer) e in
      let same : p ≡ number q = cc in
      (ap refuse same, sym (ap (λ (o : Outcome). o.image) e))

pub report-heapless : {w : List ℕ} {r r' : Registers} {a : Result Answer Question} → Held w → Good r → length w ≡ 0 → (a ≡ Err NoHeap) × (r' ≡ r) → Acts report w r a w r'
unfolding step
report-heapless {w} {r} h g e = refuses NoHeap h g (rw (no-heap w r e))

module _ {w : List ℕ} {r : Registers} (h : Held w) (pos : 0 < length w) (g : Good r) where
  step_is : step report (state_of w r) ≡ (report_of (decode w) >>= λ x. ok (report_line x.0, holding (some x.1) (cells_of_registers r) (state_of w r)))
  unfolding step state_of
  step_is = rw (the_heap_lem w r pos)

  same-acts : {x : List ℕ × Heap} {s : Statistics} {v : List ℕ} → report_of (decode w) ≡ ok x → Left ⊥ (decode w) x.1 → numbers s ≡ x.0 → v ≡ encode x.1 → Acts report w r (Ok (answer.Report s)) v r
  same-acts gave left same image =
      let fit = good-heap-fit left.good in
      answers (rw (step_is, gave, same, image, heap-encoded fit)) tt (rw image (held_after fit h pos left.same_size)) g

  module _ (o : Result Statistics Question) (v : List ℕ) (e : reported w (report_of (decode w)) ≡ report_outcome o v) where
    pub report-refused : {q : Question} {a : Result Answer Question} {r' : Registers} → o ≡ Err q → (a ≡ Err q) × (r' ≡ r) → Acts report w r a v r'
    report-refused {q} f s =
        let (no_answer, same) = same-refusal w v _ _ (e ∙ ap (λ (x : Result Statistics Question). report_outcome x v) f) in
        rw same (refuses q h g (rw (step_is, no_answer)) s)

    pub report-acts : {s : Statistics} → o ≡ Ok s → Acts report w r (Ok (answer.Report s)) v r
    report-acts f =
        let (x, gave, same, image) = same-report w v _ _ (e ∙ ap (λ (x : Result Statistics Question). report_outcome x v) f) in
        same-acts gave (holds_at (report-left ⊥ (decode w) (fit-good (h.formed pos).fit)) gave) same image
