-- The elder's steps on a heap, with what the code answers of each.
use Rattle.std.specs.Prelude.{◌≡◌, Result, Err, List, ℕ, suc, ◌*◌, ◌≤◌, ltb, length}
use Rattle.model.specs.Res.{Res, ok, ◌>>=◌, ask, each}
use Rattle.model.specs.Records.{Ptr, Cell}
use Rattle.model.specs.Barrier.{Barrier, most, count_in}
use Rattle.model.specs.Heap.{Elder, Heap}
use Rattle.model.specs.Elder.{old_members, keep, sweep, collect_old, place, place_new}
use Rattle.theorems.specs.Fit.{Image}
use Rattle.theorems.specs.Does.{Does, with_old}
use Rattle.model.specs.Calls.{cells_in}
use Rattle.words.specs.declared.Source.{Source}
use Rattle.words.specs.declared.Source.TheVariants.{Blank, Given}
use Rattle.trace.specs.Words.{members}
use Rattle.fields.specs.Fields.{on_old, with_old_bar}
use Rattle.question.specs.Question.{number_answer}
use Rattle.question.specs.declared.Question.{Question}

-- the step is done, and a refusal leaves the words
pub record Collects (step : Heap → Res (ℕ × Heap)) (w : List ℕ) (r : Result ℕ Question) (v : List ℕ) : Type 0 where
  pub does : Does step w (number_answer r) v
  pub kept : (q : Question) → r ≡ Err q → v ≡ w

-- the first n entries of the list are the members, and it holds them all
pub record Listed (roots : List Cell) (ms w : List ℕ) (n : ℕ) (list : List ℕ) : Type 0 where
  pub are : (h : Heap) → Image w h → members n list ≡ old_members h.old roots ms
  pub fits : 3 * n ≤ length list

-- the elder after a collection with these members, which leaves this barrier
unfoldable pub swept : List Ptr → Barrier → Elder → Elder
swept ps b e = record { colls = suc e.colls; bar = b; slots = keep ps 0 e.slots }

-- a collection with these members, and how many they are
unfoldable pub collect_with : List Ptr → Heap → Res (ℕ × Heap)
collect_with ps h = do
  _ ← ask 11 (ltb h.old.colls most)
  e ← sweep ps h.old
  ok (length ps, with_old e h)

-- a collection, and how many members it has
unfoldable pub collect_step : List Cell → List ℕ → Heap → Res (ℕ × Heap)
collect_step roots ms h = collect_old h.old roots ms >>= λ r. ok (length r.0, with_old r.1 h)

unfoldable pub count_step : List Cell → Heap → Res (Unit {0} × Heap)
count_step cs h = each (count_in 1) cs h.old.bar >>= λ b. ok (tt, on_old (with_old_bar b) h)

-- cells placed, and their base
unfoldable pub place_step : List Cell → Heap → Res (ℕ × Heap)
place_step cs h = place h.size cs h.old >>= λ r. ok (r.0, with_old r.1 h)

unfoldable pub blank_step : ℕ → Heap → Res (ℕ × Heap)
blank_step a h = place_new h.size a h.old >>= λ r. ok (r.0, with_old r.1 h)

-- as they come to `place`
abbrev pub source_step : Source → Heap → Res (ℕ × Heap)
source_step (Blank n) = blank_step n
source_step (Given c) = place_step (cells_in c.words.now)
