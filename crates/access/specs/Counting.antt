-- What a write counts, and what it leaves.
use Rattle.std.specs.Prelude.{Bool, true, false, not, List, ℕ, Result, Ok, Err, ◌%◌, eqb, get_or}
use Rattle.model.specs.Res.{Res, ok, refuse, ◌>>=◌}
use Rattle.model.specs.Records.{Cell, plain, ref, blank}
use Rattle.model.specs.Barrier.{Barrier, absent, present, count_in, count_out}
use Rattle.model.specs.Heap.{Heap}
use Rattle.model.specs.Collector.{write_young, write_old}
use Rattle.question.specs.Question.{number}
use Rattle.question.specs.declared.Question.{Question}
use Rattle.theorems.specs.Fit.{Image}
use Rattle.theorems.specs.Does.{with_young, with_old}
use Rattle.fields.specs.Fields.{bar_of, on_bar, with_count}

-- the old cell counted out, then the new one in
unfoldable pub recounted : ℕ → Cell → Cell → Barrier → Res Barrier
recounted own old new b = count_out own old b >>= count_in own new

-- what is counted out: without the old cell, one that does not count
unfoldable pub gone_if : Bool → Cell → Cell
gone_if true c = c
gone_if false c = blank

-- a cell of heap own that counts: a pointer to the other heap
unfoldable pub crosses : ℕ → Cell → Bool
crosses own (plain k v) = false
crosses own (ref p) = not (eqb p.heap own)

-- where it counts
unfoldable pub place_of : Cell → ℕ
place_of (plain k v) = 0
place_of (ref p) = p.base % 256

-- b with the count at k as d has it, if d is present
abbrev pub count_from : ℕ → Barrier → Barrier → Barrier
count_from k absent b = b
count_from k (present cs) b = with_count k (get_or cs k 0) b

-- the same at the place of a cell that counts
unfoldable pub count_of : ℕ → Cell → Barrier → Barrier → Barrier
count_of own c d b = elim (crosses own c) [ true ↦ count_from (place_of c) d b | false ↦ b ]

-- a step on the barrier of heap own
unfoldable pub on_counts : ℕ → (Barrier → Res Barrier) → Heap → Res Heap
on_counts own f h = f (bar_of own h) >>= λ b. ok (on_bar own b h)

-- a write at a place that is known to be there

unfoldable pub store_young : ℕ → Cell → Heap → Res Heap
store_young i c h = write_young h.young i c >>= λ y. ok (with_young y h)

unfoldable pub store_old : ℕ → List Cell → ℕ → Cell → Heap → Res Heap
store_old b s o c h = write_old h.old b s o c >>= λ e. ok (with_old e h)

-- the words w became the image of the heap that was answered; a refusal leaves them as they were
pub data Leaves : Res Heap → List ℕ → Result (Unit {0}) Question → List ℕ → Type 0 where
  done : {h : Heap} {w v : List ℕ} → Image v h → Leaves (ok h) w (Ok tt) v
  kept : {q : Question} {w : List ℕ} → Leaves (refuse (number q)) w (Err q) w
