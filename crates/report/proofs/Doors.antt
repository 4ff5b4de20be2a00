-- The report of any words: of an image that 1 and 2 were asked of, or their refusal.
use mathlib.Core.Path.{◌≡◌, sym, ap}
use mathlib.Core.List.{List}
use Prim.Native.Nat.{ℕ}
use Rattle.std.proofs.Common.{Result, Ok, Err}
use Rattle.model.specs.Image.{decode}
use Rattle.model.specs.Collector.{report}
use Rattle.model.specs.Calls.{reported, report_call}
use Rattle.question.specs.Question.{done_answer}
use Rattle.question.specs.declared.Question.{Question}
use Rattle.image.specs.Answers.{image_asked}
use Rattle.image.proofs.Opened.{formed-opened, refused-opened}
use Rattle.report.specs.Numbers.{report_outcome}

module _ (w : List ℕ) {r : Result (Unit {0}) Question} (e : done_answer r ≡ image_asked w) where
  pub as-formed : r ≡ Ok tt → report_call w ≡ reported w (report (decode w))
  unfolding report_call
  as-formed f = ap (reported w) (sym (formed-opened w e report f))

  pub unformed : (q : Question) → r ≡ Err q → report_call w ≡ report_outcome (Err q) w
  unfolding report_call reported report_outcome
  unformed q f = ap (reported w) (sym (refused-opened w e report q f))
