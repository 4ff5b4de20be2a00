-- What an operation on the elder answers, and what it makes of an image.
use Rattle.std.specs.Prelude.{Result, List, ℕ, ◌+◌, ltb, leb, length, set}
use Rattle.model.specs.Lists.{places, sum}
use Rattle.model.specs.Res.{Res, ok, ◌>>=◌, ask}
use Rattle.model.specs.Records.{Cell}
use Rattle.model.specs.Heap.{Heap}
use Rattle.model.specs.Elder.{new_base, room}
use Rattle.theorems.specs.Fit.{Image}
use Rattle.question.specs.Question.{number_answer}
use Rattle.question.specs.declared.Question.{Question}

unfoldable pub with_slots : List (List Cell) → Heap → Heap
with_slots ss h = record { size = h.size; young = h.young; old = record { colls = h.old.colls; bar = h.old.bar; slots = ss } }

-- w became v: whatever heap w is the image of, v is the image of that heap with the slots that f makes of its own
pub record Turned (f : List (List Cell) → List (List Cell)) (w v : List ℕ) : Type 0 where
  pub turned : (h : Heap) → Image w h → Image v (with_slots (f h.old.slots) h)

-- the new base, or question 7
abbrev pub fit_answer : Result ℕ Question → Res ℕ
fit_answer r = number_answer r

-- is there room for k cells, and at which base?
unfoldable pub fit_for : ℕ → Heap → Res ℕ
fit_for k h = room h.size k h.old >>= λ _. ok (new_base h.old)

-- the same of the elder's lengths
unfoldable pub fit_words : List ℕ → ℕ → ℕ → Res ℕ
fit_words ls c k =
    let b = length (places 0 ls) in
    ask 7 (ltb b (length ls)) >>= λ _.
    ask 7 (leb (sum (set ls b 0) + k) c) >>= λ _.
    ok b
