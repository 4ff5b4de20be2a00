-- The state's heap: whether there is one, and what keeps its words an image within the program's limits.
use mathlib.Core.Path.{◌≡◌, refl, sym, ap, ◌∙◌}
use mathlib.Core.Bool.{Bool, true, false}
use mathlib.Core.List.{List, [], ◌∷◌}
use mathlib.Core.Option.{some}
use Prim.Native.Nat.{ℕ, ◌<◌}
use native.Mathlib.Omega.{arith}
use lib.Dec.{eqb}
use lib.ListN.{length}
use borrow.Author.Tests.{eqb-true, eqb-false}
use Rattle.std.specs.Prelude.{Result, Err}
use Rattle.question.specs.Question.{number}
use Rattle.question.specs.declared.Question.{Question}
use Rattle.model.specs.Res.{ok, refuse}
use Rattle.model.specs.Heap.{Heap}
use Rattle.model.specs.Image.{encode, decode}
use Rattle.model.specs.Command.{Command}
use Rattle.model.specs.Run.{holding, the_heap, no_heap, program_bounds, step, stepped}
use Rattle.theorems.specs.Fit.{Fit}
use Rattle.theorems.proofs.Image.{decode-encode, encode-sized, encode-formed, image-of}
use Rattle.registers.specs.declared.Registers.{Registers}
use Rattle.registers.specs.Cells.{cells_of_registers, Good}
use Rattle.command.specs.declared.answers.Answer.{Answer}
use Rattle.command.specs.Answers.{answer_line, GoodAnswer}
use Rattle.command.specs.State.{heap_in, state_of, Held}
use Rattle.command.specs.Steps.{Acts}

-- 14

module _ {b : Bool} (w : List ℕ) (e : b ≡ eqb (length w) 0) where
  pub none_there : b ≡ true → length w ≡ 0
  none_there t = eqb-true (length w) 0 (sym e ∙ t)

  pub some_there : b ≡ false → 0 < length w
  some_there f = omega (arith, eqb-false (length w) 0 (sym e ∙ f))

pub no-heap : (w : List ℕ) (r : Registers) → length w ≡ 0 → the_heap (state_of w r) ≡ refuse 14
unfolding the_heap state_of heap_in
no-heap [] r e = refl
no-heap (x ∷ w) r e = absurd (omega arith)

pub the_heap_lem : (w : List ℕ) (r : Registers) → 0 < length w → the_heap (state_of w r) ≡ ok (decode w)
unfolding the_heap state_of heap_in
the_heap_lem [] r h = absurd (omega arith)
the_heap_lem (x ∷ w) r h = refl

pub heap-there : (w : List ℕ) (r : Registers) → 0 < length w → no_heap (state_of w r) ≡ refuse 14
unfolding no_heap state_of heap_in
heap-there [] r h = absurd (omega arith)
heap-there (x ∷ w) r h = refl

-- a refusal leaves the state
pub refuses : {c : Command} {w : List ℕ} {r r' : Registers} {a : Result Answer Question} (q : Question) → Held w → Good r → step c (state_of w r) ≡ refuse (number q) → (a ≡ Err q) × (r' ≡ r) → Acts c w r a w r'
unfolding stepped
refuses q h g e (is, same) = rw (is, same) (record { stepping = rw e; whole = tt; held = h; good = g })

-- the model's state made anew is that of the words and registers that are left
pub answers : {c : Command} {w : List ℕ} {r : Registers} {a : Result Answer Question} {v : List ℕ} {r' : Registers} → step c (state_of w r) ≡ ok (answer_line a, holding (heap_in v) (cells_of_registers r') (state_of w r)) → GoodAnswer a → Held v → Good r' → Acts c w r a v r'
unfolding stepped holding state_of
answers e u h g = record { stepping = rw e; whole = u; held = h; good = g }

-- words that are held

pub held_none : Held []
held_none = record { formed = λ h. absurd (omega arith); bounded = λ h. absurd (omega arith) }

module _ {h : Heap} (f : Fit h) where
  pub heap-encoded : heap_in (encode h) ≡ some h
  unfolding heap_in encode
  heap-encoded = ap some (decode-encode h f)

  pub held-image : program_bounds h.size ≡ true → Held (encode h)
  held-image b = record { formed = λ _. image-of (encode h) (encode-sized h f) (encode-formed h f); bounded = λ _. rw (decode-encode h f) b }

  -- a call keeps the sizes
  pub held_after : {w : List ℕ} → Held w → 0 < length w → h.size ≡ (decode w).size → Held (encode h)
  held_after k pos e = held-image (rw e (k.bounded pos))
