-- What the code's operations on an image do, said by the model: whatever heap the words are the image of, the operation answers
-- what the model's step answers, and leaves the image of the heap that the step leaves. After a refusal the words are free:
-- whoever called puts the image back.
use Rattle.std.specs.Prelude.{◌≡◌, List, ℕ}
use Rattle.model.specs.Res.{Res, ok, refuse}
use Rattle.model.specs.Heap.{Nursery, Elder, Heap}
use Rattle.theorems.specs.Fit.{Image}

-- the step's result, the code's answer, the words that it leaves
abbrev pub Meets : {A : Type 0} → Res (A × Heap) → Res A → List ℕ → Type 0
Meets (ok x) (ok a) v = (a ≡ x.0) × Image v x.1
Meets (ok x) (refuse q) v = ⊥
Meets (refuse q) (ok a) v = ⊥
Meets (refuse q) (refuse p) v = p ≡ q

pub record Does {A : Type 0} (step : Heap → Res (A × Heap)) (w : List ℕ) (answer : Res A) (v : List ℕ) : Type 0 where
  pub does : (h : Heap) → Image w h → Meets (step h) answer v

-- a heap with another nursery, or another elder

unfoldable pub with_young : Nursery → Heap → Heap
with_young y h = record { size = h.size; young = y; old = h.old }

unfoldable pub with_old : Elder → Heap → Heap
with_old e h = record { size = h.size; young = h.young; old = e }
