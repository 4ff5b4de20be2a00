-- The nursery's collection on a heap, with what the code answers of it.
use Rattle.std.specs.Prelude.{◌≡◌, Result, List, ℕ, ◌*◌, ◌≤◌, length}
use Rattle.model.specs.Res.{Res, ok, ◌>>=◌}
use Rattle.model.specs.Records.{Ptr, Cell}
use Rattle.model.specs.Heap.{Heap}
use Rattle.model.specs.Nursery.{young_members, survivors, collect_young}
use Rattle.theorems.specs.Fit.{Image}
use Rattle.theorems.specs.Does.{with_young}
use Rattle.trace.specs.Words.{members}
use Rattle.nursery.specs.declared.Collected.{Collected}
use Rattle.question.specs.Question.{answer}
use Rattle.question.specs.declared.Question.{Question}

-- the visits, and the survivors that the list holds
abbrev pub collected_answer : Result Collected Question → List ℕ → Res (ℕ × List Ptr)
collected_answer r list = answer (λ c. (c.visits, members c.survivors list)) r

-- the first n entries of the list are the members, and it holds them all
pub record Listed (roots : List Cell) (ms w : List ℕ) (n : ℕ) (list : List ℕ) : Type 0 where
  pub are : (h : Heap) → Image w h → members n list ≡ young_members h.young roots ms
  pub fits : 3 * n ≤ length list

-- a collection: how many members it has, and the survivors
unfoldable pub collect_step : List Cell → List ℕ → Heap → Res ((ℕ × List Ptr) × Heap)
collect_step roots ms h = collect_young h.young roots ms >>= λ c. ok ((length c.0, survivors c.0), with_young c.1 h)
