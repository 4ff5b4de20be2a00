use mathlib.Core.Path.{◌≡◌, ap, ◌∙◌}
use mathlib.Core.Bool.{Bool, true, false, not}
use Rattle.changes.proofs.Steps.{alone-in, alone-out, times-same}
use Rattle.changes.proofs.count_changes.Goals as goal

-- what `is_none` says where it answers true
unsaid : {s t : Bool} → s ≡ not t → t ≡ true → s ≡ false
unsaid e h = e ∙ ap not h

pub returns-then-is_none : goal.returns-then-is_none
returns-then-is_none c =
    c.counted_in.ensures
    ∙ times-same _ _ _ (λ b. alone-in _ _ b _ _ c.was-was.ensures c.becomes-becomes.ensures _ c.crossing.ensures (unsaid c.is_none.ensures c.if-is_none.true)) _

pub returns-then-is_none-2 : goal.returns-then-is_none-2
returns-then-is_none-2 c =
    c.counted_out.ensures
    ∙ times-same _ _ _ (λ b. alone-out _ _ b _ _ c.was-was.ensures c.becomes-becomes.ensures _ c.crossing-2.ensures (unsaid c.is_none-2.ensures c.if-is_none-2.true)) _
