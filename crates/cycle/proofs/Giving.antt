-- A generation that gives, and one that has to be collected first.
use mathlib.Core.Path.{◌≡◌, sym, ap}
use mathlib.Core.Bool.{Bool, true, false, not}
use mathlib.Core.List.{List}
use Prim.Native.Nat.{ℕ, ◌-◌, ◌<◌}
use lib.Dec.{ltb, leb}
use borrow.Author.Tests.{ltb-true, not-false, ne_eqb}
use Rattle.std.proofs.Common.{Result, Ok, Err}
use Rattle.model.specs.Res.{Res, ◌>>=◌}
use Rattle.model.specs.Records.{Cell, whole}
use Rattle.model.specs.Heap.{Heap, held}
use Rattle.model.specs.Image.{decode}
use Rattle.model.specs.Nursery.{bump}
use Rattle.theorems.specs.Does.{Does}
use Rattle.theorems.proofs.Does.{does-same}
use Rattle.trace.specs.Words.{tab}
use Rattle.fields.specs.Fields.{Reads, Turns, on_young}
use Rattle.question.specs.Question.{number_answer}
use Rattle.question.specs.declared.Question.{Question}
use Rattle.elder.specs.Steps.{place_step, blank_step}
use Rattle.pointers.specs.Steps.{moves_in}
use Rattle.cycle.specs.declared.turns.Request.{Request}
use Rattle.cycle.specs.declared.turns.Request.TheVariants.{New, Move}
use Rattle.cycle.specs.declared.turns.Gave.{Gave}
use Rattle.cycle.specs.Turns.{at, in_elder, give, bumped, too_large, must_collect, give_in}
use Rattle.cycle.specs.Outcomes.{Asked, Gives, gave_at, gave_turn}
use Rattle.cycle.proofs.Doing.{does-map}

-- has it to be collected first?

module _ {w : List ℕ} (what : Request) (left : ℕ) (done : Bool) where
  pub last_done : left ≡ 1 → done ≡ true → Reads (must_collect what left done) w (not done)
  unfolding must_collect
  last_done e d = record { reads = λ h i. rw (e, d) }

  pub last-full : {b : Bool} → left ≡ 1 → done ≡ false → Reads (λ h. leb h.size.t (held h.old.slots)) w b → Reads (must_collect what left done) w b
  unfolding must_collect
  last-full e d r = record { reads = λ h i. rw (e, d) (r.reads h i) }

  pub new-fits : (a : ℕ) {b : Bool} → (left ≡ 1 → ⊥) → what ≡ New a → Reads (λ h. ltb a (h.size.n - h.young.cursor)) w b → Reads (must_collect what left done) w (not b)
  unfolding must_collect too_large
  new-fits a n e r = record { reads = λ h i. rw (ne_eqb left 1 n, e) (ap not (r.reads h i)) }

  pub move-none : (b : ℕ) → (left ≡ 1 → ⊥) → what ≡ Move b → Reads (must_collect what left done) w false
  unfolding must_collect too_large
  move-none b n e = record { reads = λ h i. rw (ne_eqb left 1 n, e) }

-- what the elder places, and what the nursery gives

abbrev pub placed : Result ℕ Question → Result Gave Question
placed (Ok b) = Ok (gave_at 1 b)
placed (Err q) = Err q

module _ {w v : List ℕ} where
  elder-gives : {step : Heap → Res (ℕ × Heap)} (p : Result ℕ Question) → Does step w (number_answer p) v → Gives (λ h. step h >>= in_elder) w (placed p) v
  unfolding gave_turn gave_at moves_in tab in_elder at
  elder-gives (Ok b) d = record { does = λ z r s. does-map (λ b. at (whole 1 b)) d }
  elder-gives (Err q) d = record { does = λ z r s. does-map (λ b. at (whole 1 b)) d }

  pub bump_gives : (a : ℕ) {b : ℕ} (g : Gave) → Reads (λ h. h.young.cursor) w b → Turns (on_young (λ y. bump y a)) w v → g ≡ gave_at 0 b → Gives (bumped a) w (Ok g) v
  unfolding bumped gave_turn gave_at moves_in tab at
  bump_gives a {b} g r t e = rw e (record { does = λ z k s. record { does = λ h i. (ap (λ (c : ℕ). at (whole 0 c)) (sym (r.reads h i)), t.turns h i) } })

  module _ (parts : ℕ → List Cell) (what : Request) (left : ℕ) where
    pub give-new : (a : ℕ) (p : Result ℕ Question) {o : Result Gave Question} → what ≡ New a → left ≡ 1 → Does (blank_step a) w (number_answer p) v → o ≡ placed p → Gives (give_in parts what left) w o v
    unfolding give_in give
    give-new a p e l d f = rw (e, l, f) (elder-gives p d)

    pub give-move : (b : ℕ) (p : Result ℕ Question) {o : Result Gave Question} → what ≡ Move b → Does (place_step (parts b)) w (number_answer p) v → o ≡ placed p → Gives (give_in parts what left) w o v
    unfolding give_in give
    give-move b p e d f = rw (e, f) (elder-gives p d)

    pub give-young : (a : ℕ) {o : Result Gave Question} → what ≡ New a → (left ≡ 1 → ⊥) → Gives (bumped a) w o v → Gives (give_in parts what left) w o v
    unfolding give_in
    give-young a e n g = record { does = λ z r s. does-same (λ h i. rw (e, ne_eqb left 1 n)) (g.does z r s) }

-- what they ask

module _ (w s : List ℕ) (what : Request) (asked : Asked what (decode w).size s) where
  pub new-asked : (a left : ℕ) → what ≡ New a → (left ≡ 1 → ⊥) → must_collect what left true (decode w) ≡ false → (0 < a) × (a < (decode w).size.n - (decode w).young.cursor)
  unfolding must_collect too_large
  new-asked a left e n m =
      let f : not (ltb a ((decode w).size.n - (decode w).young.cursor)) ≡ false = rw (e, ne_eqb left 1 n) at m in
      (rw e at asked, ltb-true a ((decode w).size.n - (decode w).young.cursor) (not-false _ f))
