-- The library's calls over raw words: questions 1 to 5 where they apply, then the heap's own. The public contracts cite these.
use Rattle.std.specs.Prelude.{Bool, ◌&&◌, List, [], ◌∷◌, ℕ, ◌+◌, ◌*◌, ◌/◌, leb, eqb, length, get_or}
use Rattle.model.specs.Res.{Res, ok, refuse, ◌>>=◌, ask}
use Rattle.model.specs.Records.{Ptr, Cell, cell_words, cell_of, cells_of, whole_cells}
use Rattle.model.specs.Heap.{Sizes, in_bounds, Heap, fresh}
use Rattle.model.specs.Image.{image_length, encode, decode, sized, formed}
use Rattle.model.specs.Collector.{Allocation, four_counts, alloc, read, write, report}

-- the cells of words that are whole cells
unfoldable pub cells_in : List ℕ → List Cell
cells_in w = cells_of (length w / 3) w

-- 3. Are roots or value whole, valid cells, and the roots within bounds?

unfoldable pub roots_good : List ℕ → Bool
roots_good w = whole_cells w && leb (length w) (3 * 4096)

unfoldable pub value_good : List ℕ → Bool
value_good w = whole_cells w && eqb (length w) 3

-- 4. Is scratch long enough? R are the root cells
unfoldable pub scratch_length : Sizes → ℕ → ℕ
scratch_length z r = image_length z + 4 * (r + 2 * z.n) + 3 * (r + z.s + z.c)

-- an image's heap, if 1 and 2 get a yes
unfoldable pub opened : List ℕ → Res Heap
opened w =
    ask 1 (sized w) >>= λ _.
    ask 2 (formed w) >>= λ _.
    ok (decode w)

-- `…On` asks what is left once the image is known to be formed: what the `_formed` doors do.

unfoldable pub alloc_on : Heap → List ℕ → ℕ → ℕ → Res Allocation
alloc_on h roots scratch amount =
    ask 3 (roots_good roots) >>= λ _.
    ask 4 (leb (scratch_length h.size (length roots / 3)) scratch) >>= λ _.
    alloc h (cells_in roots) amount

unfoldable pub read_on : Heap → Ptr → Res (List ℕ)
read_on h p = read h p >>= λ c. ok (cell_words (c ∷ []))

unfoldable pub write_on : Heap → Ptr → List ℕ → Res Heap
write_on h p value =
    ask 3 (value_good value) >>= λ _.
    write h p (cell_of (get_or value 0 0) (get_or value 1 0) (get_or value 2 0))

-- What a call answers, and what it leaves in image and roots. A refusal leaves both as they were.
pub record Outcome : Type 0 where
  pub answer : Res (List ℕ)
  pub image : List ℕ
  pub roots : List ℕ

-- alloc answers the pointer (heap, base, offset) and the four counts
unfoldable pub allocated : List ℕ → List ℕ → Res Allocation → Outcome
allocated image roots (ok r) = record { answer = ok (r.ptr.heap ∷ r.ptr.base ∷ r.ptr.off ∷ four_counts r); image = encode r.heap; roots = cell_words r.roots }
allocated image roots (refuse q) = record { answer = refuse q; image = image; roots = roots }

unfoldable pub left : List ℕ → Res Heap → Outcome
left image (ok h) = record { answer = ok []; image = encode h; roots = [] }
left image (refuse q) = record { answer = refuse q; image = image; roots = [] }

unfoldable pub reported : List ℕ → Res (List ℕ × Heap) → Outcome
reported image (ok r) = record { answer = ok r.0; image = encode r.1; roots = [] }
reported image (refuse q) = record { answer = refuse q; image = image; roots = [] }

-- The calls: roots, scratch's length, amount; pointer; pointer and value
pub data Call : Type 0 where
  allocs : List ℕ → ℕ → ℕ → Call
  reads : Ptr → Call
  writes : Ptr → List ℕ → Call

unfoldable pub call : Call → List ℕ → Outcome
call (allocs roots scratch amount) w = allocated w roots (opened w >>= λ h. alloc_on h roots scratch amount)
call (reads p) w = record { answer = opened w >>= λ h. read_on h p; image = w; roots = [] }
call (writes p value) w = left w (opened w >>= λ h. write_on h p value)

unfoldable pub report_call : List ℕ → Outcome
report_call w = reported w (opened w >>= report)

-- a fresh heap, over words of any content: 1 asks of the sizes and of the length
unfoldable pub new_call : Sizes → List ℕ → Outcome
new_call z w = left w (ask 1 (in_bounds z && eqb (length w) (image_length z)) >>= λ _. ok (fresh z))
