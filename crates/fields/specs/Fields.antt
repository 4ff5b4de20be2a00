-- What is read from an image, and what becomes of it, whatever heap the words are the image of.
use Rattle.std.specs.Prelude.{◌≡◌, Bool, true, false, List, [], ◌∷◌, ℕ, zero, suc, length, get_or, set, replicate}
use Rattle.model.specs.Records.{Cell, cell_of}
use Rattle.model.specs.Barrier.{Barrier, absent, present, counts}
use Rattle.model.specs.Heap.{Nursery, Elder, Heap}
use Rattle.theorems.specs.Fit.{Image}
use Rattle.theorems.specs.Does.{with_young, with_old}
use Rattle.value.specs.declared.Words.{Words}
use Rattle.image.specs.Places.{young_counts_at, old_counts_at}

-- r is what f says of the heap
pub record Reads {A : Type 0} (f : Heap → A) (w : List ℕ) (r : A) : Type 0 where
  pub reads : (h : Heap) → Image w h → f h ≡ r

-- w became v, the image of what f makes of the heap
pub record Turns (f : Heap → Heap) (w v : List ℕ) : Type 0 where
  pub turns : (h : Heap) → Image w h → Image v (f h)

-- one generation changes, and all else stays

abbrev pub on_young : (Nursery → Nursery) → Heap → Heap
on_young f h = with_young (f h.young) h

abbrev pub on_old : (Elder → Elder) → Heap → Heap
on_old f h = with_old (f h.old) h

unfoldable pub with_bar : Barrier → Nursery → Nursery
with_bar b y = record { cursor = y.cursor; colls = y.colls; proms = y.proms; bar = b; lens = y.lens; cells = y.cells }

unfoldable pub with_old_bar : Barrier → Elder → Elder
with_old_bar b e = record { colls = e.colls; bar = b; slots = e.slots }

-- the barrier of heap `own`: the nursery's for 0, else the elder's

unfoldable pub bar_of : ℕ → Heap → Barrier
bar_of zero h = h.young.bar
bar_of (suc k) h = h.old.bar

unfoldable pub on_bar : ℕ → Barrier → Heap → Heap
on_bar zero b h = on_young (with_bar b) h
on_bar (suc k) b h = on_old (with_old_bar b) h

unfoldable pub is_present : Barrier → Bool
is_present absent = false
is_present (present cs) = true

-- the count at k becomes n, in a barrier that is then present
unfoldable pub with_count : ℕ → ℕ → Barrier → Barrier
with_count k n b = present (set (counts b) k n)

-- where its flag and its counts stand

abbrev pub flag_at : ℕ → ℕ
flag_at zero = 8
flag_at (suc k) = 9

abbrev pub counts_at : ℕ → ℕ
counts_at zero = young_counts_at
counts_at (suc k) = old_counts_at

unfoldable pub with_cell : ℕ → Cell → Nursery → Nursery
with_cell i c y = record { cursor = y.cursor; colls = y.colls; proms = y.proms; bar = y.bar; lens = y.lens; cells = set y.cells i c }

unfoldable pub restarted : ℕ → ℕ → Nursery → Nursery
restarted colls proms y = record { cursor = 0; colls = colls; proms = proms; bar = y.bar; lens = replicate (length y.lens) 0; cells = y.cells }

unfoldable pub collected_once : Elder → Elder
collected_once e = record { colls = suc e.colls; bar = e.bar; slots = e.slots }

-- the cell of three words, and the words of a cell that was read

abbrev pub cell_in : List ℕ → Cell
cell_in w = cell_of (get_or w 0 0) (get_or w 1 0) (get_or w 2 0)

abbrev pub words_of : Words → List ℕ
words_of r = r.tag ∷ r.payload ∷ r.offset ∷ []
