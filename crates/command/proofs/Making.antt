-- Commands over a buffer that the heap's words stand in front of; and `new`, whose limits are within the heap's own bounds.
use mathlib.Core.Path.{◌≡◌, sym, ap, ◌∙◌}
use mathlib.Core.Bool.{true, false}
use mathlib.Core.List.{List, ◌++◌}
use Rattle.std.specs.Prelude.{Option, Some, Result, Ok, Err}
use Rattle.std.specs.Bool.{then_some}
use Rattle.std.specs.Option.{IsSome}
use Prim.Native.Nat.{ℕ, ◌+◌, ◌≤◌, zero-le}
use native.Mathlib.Omega.{arith}
use lib.ListN.{length, take, drop, length-append}
use lib.Seq.{length-take-le, take_at}
use Rattle.model.specs.Res.{ok}
use Rattle.model.specs.Heap.{Sizes, in_bounds, fresh}
use Rattle.model.specs.Image.{image_length, encode}
use Rattle.model.specs.Calls.{Outcome, left, new_call}
use Rattle.model.specs.Command.{Command, new}
use Rattle.model.specs.Run.{no_heap, program_bounds, step, stepped}
use Rattle.theorems.specs.Fit.{Fit}
use Rattle.theorems.specs.Program.{program_words}
use Rattle.theorems.proofs.Image.{encode-length, fresh-fit}
use Rattle.theorems.proofs.Lists.{eqb_same}
use Rattle.theorems.proofs.Kept.{refused-ok}
use Rattle.theorems.proofs.Program.{limits-bound, limited-image}
use Rattle.question.specs.declared.Question.{Question}
use Rattle.question.specs.declared.Question.TheVariants.{Sizes as SizesNo}
use Rattle.image.specs.Answers.{made_outcome}
use Rattle.registers.specs.declared.Registers.{Registers}
use Rattle.registers.specs.Cells.{Good}
use Rattle.command.specs.declared.answers.Answer.{Answer}
use Rattle.command.specs.declared.answers.Answer.TheVariants as answer
use Rattle.command.specs.declared.State.{State}
use Rattle.command.specs.State.{heap_in, state_of, holding, heapless}
use Rattle.command.specs.Steps.{Acts, Performs}
use Rattle.command.proofs.Heaps.{answers, held_none, heap-encoded, held-image}

-- the first k words of a buffer become v
pub performs-front : (buffer : List ℕ) (s : State) {c : Command} {v : List ℕ} {a : Result Answer Question} {r : Registers} {k : ℕ} → k ≤ length buffer → length v ≡ k
    → Acts c (take s.words buffer) s.registers a v r → Performs c buffer s a (v ++ drop k buffer) (holding k r)
performs-front buffer s {v = v} {k = k} fits long acts =
    let front : take k (v ++ drop k buffer) ≡ v = take_at v (drop k buffer) k long in
    let all : length (v ++ drop k buffer) ≡ length v + length (drop k buffer) = length-append v (drop k buffer) in
    record { stepping = rw front acts.stepping; whole = acts.whole; ready = record { within = omega arith; held = rw front acts.held; good = acts.good } }

module _ (buffer : List ℕ) (z : Sizes) where
  -- 1
  pub make-refused : program_bounds z ≡ false → (r : Registers) → Good r → Performs (new z) buffer (heapless r) (Err SizesNo) buffer (heapless r)
  unfolding step stepped no_heap state_of heap_in
  make-refused e r g = record { stepping = rw e; whole = tt; ready = record { within = zero-le; held = held_none; good = g } }

  module _ (room : program_words ≤ length buffer) (e : program_bounds z ≡ true) {o : Option ℕ} (is : o ≡ then_some (in_bounds z) (image_length z)) where
    make-some : o ≡ Some (image_length z)
    make-some = is ∙ rw (limits-bound z e)

    pub make-sized : IsSome o
    make-sized = rw make-some

    module _ {k : ℕ} (words : o ≡ Some k) where
      long : k ≡ image_length z
      long = let s = make-some in cc

      pub make-fits : k ≤ length buffer
      make-fits = omega (arith, long, limited-image z e)

      module _ (m : Result (Unit {0}) Question) (v : List ℕ) (done : made_outcome m v ≡ new_call z (take k buffer)) where
        newly : made_outcome m v ≡ left (take k buffer) (ok (fresh z))
        unfolding new_call
        newly = done ∙ rw (limits-bound z e, length-take-le k buffer make-fits, long, eqb_same (image_length z))

        pub make-always : {q : Question} → m ≡ Err q → ⊥
        unfolding made_outcome left
        make-always f = refused-ok (ap (λ (o : Outcome). o.answer) (ap (λ (x : Result (Unit {0}) Question). made_outcome x v) (sym f) ∙ newly))

        pub make-done : m ≡ Ok tt → (r : Registers) → Good r → Performs (new z) buffer (heapless r) (Ok answer.New) (v ++ drop k buffer) (holding k r)
        unfolding step no_heap state_of heap_in made_outcome left fresh
        make-done f r g =
            let fit : Fit (fresh z) = fresh-fit z (limits-bound z e) in
            let image : v ≡ encode (fresh z) = ap (λ (o : Outcome). o.image) (ap (λ (x : Result (Unit {0}) Question). made_outcome x v) (sym f) ∙ newly) in
            performs-front buffer (heapless r) {v = v} make-fits (ap length image ∙ encode-length (fresh z) fit ∙ sym long) (answers (rw (e, image, heap-encoded fit)) tt (rw image (held-image fit e)) g)
