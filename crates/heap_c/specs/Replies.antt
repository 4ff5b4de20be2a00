-- What a C function answers for an answer or an outcome of the model: 0, with the answer's words in `out`, or the question's
-- number, with `out` as it was.
use Rattle.std.specs.Prelude.{◌≡◌, List, [], ◌∷◌, ℕ}
use Rattle.std.specs.Int.{w64}
use Rattle.std.proofs.Common.{of_z}
use Rattle.model.specs.Res.{Res, ok, refuse, ◌>>=◌}
use Rattle.model.specs.Records.{Cell, cell_words}
use Rattle.model.specs.Figure.{Figure}
use Rattle.model.specs.Calls.{Outcome}
use Rattle.value.specs.Value.{bool_word}
use Rattle.collector.specs.declared.Allocation.{Allocation}

unfoldable pub number_of : Res (List ℕ) → ℕ
number_of (ok words) = 0
number_of (refuse q) = q

unfoldable pub out_of : Res (List ℕ) → List ℕ → List ℕ
out_of (ok words) before = words
out_of (refuse q) before = before

-- a read's cell as words
unfoldable pub words_of : Res Cell → Res (List ℕ)
words_of r = r >>= λ c. ok (cell_words (c ∷ []))

-- an alloc's answer: the pointer, then the four counts
unfoldable pub allocation_words : Allocation → List ℕ
allocation_words a = a.pointer.heap ∷ a.pointer.base ∷ of_z w64 a.pointer.offset ∷ a.nursery.collections ∷ a.nursery.visits ∷ a.elder.collections ∷ a.elder.visits ∷ []

-- a figure: 1 below zero, then the thousandths
unfoldable pub figure_words : Figure → List ℕ
figure_words f = bool_word f.negative ∷ f.thousandths ∷ []

unfoldable pub figure_answer : Res Figure → Res (List ℕ)
figure_answer r = r >>= λ f. ok (figure_words f)

-- r is answered, and these words are left in `out`
pub record Answers (answer : Res (List ℕ)) (before : List ℕ) (r : ℕ) (out : List ℕ) : Type 0 where
  pub number : r ≡ number_of answer
  pub written : out ≡ out_of answer before

-- r is answered, and these words are left in the image
pub record Leaves (o : Outcome) (r : ℕ) (w : List ℕ) : Type 0 where
  pub number : r ≡ number_of o.answer
  pub image : w ≡ o.image

-- report: both
pub record Reports (o : Outcome) (before : List ℕ) (r : ℕ) (out w : List ℕ) : Type 0 where
  pub answers : Answers o.answer before r out
  pub image : w ≡ o.image

-- alloc: all of it
pub record Allocates (o : Outcome) (before : List ℕ) (r : ℕ) (out w cells : List ℕ) : Type 0 where
  pub answers : Answers o.answer before r out
  pub image : w ≡ o.image
  pub roots : cells ≡ o.roots
