-- What a write leaves: the image of a heap of the same sizes.
use mathlib.Core.Path.{◌≡◌, refl, sym, ap, ◌∙◌}
use mathlib.Core.Bool.{true}
use mathlib.Core.List.{List, [], ◌∷◌}
use mathlib.Core.Option.{some}
use Prim.Native.Nat.{ℕ, ◌<◌}
use lib.ListN.{length}
use Rattle.std.specs.Prelude.{Result, Ok, Err}
use Rattle.model.specs.Res.{Res, ok, refuse}
use Rattle.model.specs.Records.{Ptr, Cell, cell_words, valid, whole_cells}
use Rattle.model.specs.Heap.{Heap}
use Rattle.model.specs.Image.{encode, decode}
use Rattle.model.specs.Collector.{write}
use Rattle.model.specs.Calls.{Outcome, value_good, write_on, left}
use Rattle.theorems.proofs.Res.{holds_at}
use Rattle.theorems.proofs.Collect.{good-heap-fit}
use Rattle.theorems.proofs.Calls.{Left, write-left}
use Rattle.theorems.proofs.Kept.{fit-good, refused-ok}
use Rattle.question.specs.Question.{number}
use Rattle.question.specs.declared.Question.{Question}
use Rattle.image.specs.Answers.{made_outcome}
use Rattle.access.specs.Access.{stored_outcome}
use Rattle.access.proofs.Cells.{read-valid, read_cell}
use Rattle.command.specs.State.{heap_in, Held}
use Rattle.command.proofs.Heaps.{heap-encoded, held_after}

-- the words of a valid cell are written as the cell
pub written_as : (h : Heap) (p : Ptr) (c : Cell) {a b o : ℕ} → (a ∷ b ∷ o ∷ []) ≡ cell_words (c ∷ []) → valid c ≡ true → write_on h p (a ∷ b ∷ o ∷ []) ≡ write h p c
unfolding write_on value_good whole_cells
written_as h p c e t = rw (read-valid c (sym e) t, read_cell c (sym e) t)

-- what was left, by the answer

pub done-left : (m : Res Heap) (w v : List ℕ) (r : Result (Unit {0}) Question) → left w m ≡ stored_outcome r v → r ≡ Ok tt → (h : Heap) × (m ≡ ok h) × (v ≡ encode h)
unfolding left made_outcome
done-left (ok h) w v r e f = (h, refl, sym (ap (λ (o : Outcome). o.image) (e ∙ ap (λ (s : Result (Unit {0}) Question). stored_outcome s v) f)))
done-left (refuse q) w v r e f = absurd (refused-ok (ap (λ (o : Outcome). o.answer) (e ∙ ap (λ (s : Result (Unit {0}) Question). stored_outcome s v) f)))

pub refused-left : (m : Res Heap) (w v : List ℕ) (r : Result (Unit {0}) Question) (q : Question) → left w m ≡ stored_outcome r v → r ≡ Err q → (m ≡ refuse (number q)) × (v ≡ w)
unfolding left made_outcome
refused-left (ok h) w v r q e f = absurd (refused-ok (sym (ap (λ (o : Outcome). o.answer) (e ∙ ap (λ (s : Result (Unit {0}) Question). stored_outcome s v) f))))
refused-left (refuse p) w v r q e f =
    let o = e ∙ ap (λ (s : Result (Unit {0}) Question). stored_outcome s v) f in
    let same : p ≡ number q = (let a = ap (λ (o : Outcome). o.answer) o in cc) in
    (ap refuse same, sym (ap (λ (o : Outcome). o.image) o))

module _ {w : List ℕ} (held : Held w) (some_words : 0 < length w) (p : Ptr) (c : Cell) (t : valid c ≡ true) {h : Heap} {v : List ℕ} (e : write (decode w) p c ≡ ok h) (is : v ≡ encode h) where
  kept : Left ⊥ (decode w) h
  kept = holds_at (write-left ⊥ (decode w) p c t (fit-good (held.formed some_words).fit)) e

  pub held-written : Held v
  held-written = rw is (held_after (good-heap-fit kept.good) held some_words kept.same_size)

  pub heap-written : heap_in v ≡ some h
  heap-written = rw is (heap-encoded (good-heap-fit kept.good))
