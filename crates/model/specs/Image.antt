-- The image: the heap as words, and the words as a heap; questions 1 and 2.
use Rattle.std.specs.Prelude.{Bool, true, false, ◌&&◌, ◌||◌, List, [], ◌∷◌, ◌++◌, map, ℕ, zero, suc, ◌+◌, ◌-◌, ◌*◌, eqb, ltb, leb, length, get_or, take, drop, replicate}
use Rattle.model.specs.Lists.{flat, sum, all_at_most}
use Rattle.model.specs.Records.{cell_words, cells_of, valid_words, whole_cells}
use Rattle.model.specs.Barrier.{Barrier, absent, present, cache, most, counts}
use Rattle.model.specs.Heap.{Sizes, in_bounds, Heap, in_use}

-- Layout. Ten words: N, threshold T, S, C; nursery cursor, nursery collections, nursery promotions, elder collections;
-- nursery barrier present, elder barrier present. Then six regions:
pub record Regions : Type 0 where
  pub young_counts : List ℕ
  pub old_counts : List ℕ
  pub lens : List ℕ
  pub slot_lens : List ℕ
  pub young_cells : List ℕ
  pub old_cells : List ℕ

unfoldable pub image_length : Sizes → ℕ
image_length z = 522 + 4 * z.n + z.s + 3 * z.c

unfoldable pub sizes_of : List ℕ → Sizes
sizes_of w = record { n = get_or w 0 0; t = get_or w 1 0; s = get_or w 2 0; c = get_or w 3 0 }

unfoldable pub regions : List ℕ → Regions
regions w =
    let n = get_or w 0 0 in
    let s = get_or w 2 0 in
    let a = drop 10 w in
    let b = drop cache a in
    let c = drop cache b in
    let d = drop n c in
    let e = drop s d in
    record {
      young_counts = take cache a;
      old_counts = take cache b;
      lens = take n c;
      slot_lens = take s d;
      young_cells = take (n * 3) e;
      old_cells = drop (n * 3) e;
    }

-- A barrier is a flag and its counts

unfoldable pub flag : Barrier → ℕ
flag absent = 0
flag (present cs) = 1

unfoldable pub barrier : ℕ → List ℕ → Barrier
barrier zero cs = absent
barrier (suc k) cs = present cs

-- The elder's cells are packed in base order, the rest zero

unfoldable pub cut : {A : Type 0} → List ℕ → List A → List (List A)
cut [] xs = []
cut (n ∷ ns) xs = take n xs ∷ cut ns (drop n xs)

unfoldable pub encode : Heap → List ℕ
encode h =
    let z = h.size in
    let y = h.young in
    let e = h.old in
    z.n ∷ z.t ∷ z.s ∷ z.c ∷ y.cursor ∷ y.colls ∷ y.proms ∷ e.colls ∷ flag y.bar ∷ flag e.bar
    ∷ (counts y.bar ++ (counts e.bar ++ (y.lens ++ (map length e.slots ++ (cell_words y.cells ++ (cell_words (flat e.slots) ++ replicate ((z.c - in_use e.slots) * 3) 0))))))

-- the heap of words for which 1 and 2 get a yes
unfoldable pub decode : List ℕ → Heap
decode w =
    let z = sizes_of w in
    let r = regions w in
    record {
      size = z;
      young = record {
        cursor = get_or w 4 0;
        colls = get_or w 5 0;
        proms = get_or w 6 0;
        bar = barrier (get_or w 8 0) r.young_counts;
        lens = r.lens;
        cells = cells_of z.n r.young_cells;
      };
      old = record { colls = get_or w 7 0; bar = barrier (get_or w 9 0) r.old_counts; slots = cut r.slot_lens (cells_of (sum r.slot_lens) r.old_cells) };
    }

-- 1. Are the sizes within bounds, and is the image's length theirs?
unfoldable pub sized : List ℕ → Bool
sized w = leb 4 (length w) && in_bounds (sizes_of w) && eqb (length w) (image_length (sizes_of w))

-- 2. Is the image well formed?

-- the cursor is below N, or N is 0
unfoldable pub cursor_in : ℕ → ℕ → Bool
cursor_in cursor n = ltb cursor n || eqb n 0 && eqb cursor 0

-- allocations fill `left` places without gaps, after `skip` more places of the one before
unfoldable pub tiles : ℕ → ℕ → List ℕ → Bool
tiles left skip [] = eqb left 0
tiles left (suc skip) (x ∷ xs) = eqb x 0 && tiles left skip xs
tiles left zero (x ∷ xs) = elim (eqb left 0) [ true ↦ eqb x 0 && tiles 0 0 xs | false ↦ ltb 0 x && leb x left && tiles (left - x) (x - 1) xs ]

-- a flag is 0 or 1, and a barrier not present has only zero counts
unfoldable pub flagged : ℕ → List ℕ → Bool
flagged zero cs = all_at_most 0 cs
flagged (suc zero) cs = all_at_most most cs
flagged (suc (suc k)) cs = false

-- k valid cells, the rest zero
unfoldable pub packed_cells : ℕ → List ℕ → Bool
packed_cells k [] = eqb k 0
packed_cells k (a ∷ []) = false
packed_cells k (a ∷ b ∷ []) = false
packed_cells zero (a ∷ b ∷ o ∷ w) = eqb a 0 && eqb b 0 && eqb o 0 && packed_cells zero w
packed_cells (suc k) (a ∷ b ∷ o ∷ w) = valid_words a b o && packed_cells k w

unfoldable pub formed : List ℕ → Bool
formed w =
    let z = sizes_of w in
    let r = regions w in
    cursor_in (get_or w 4 0) z.n
    && all_at_most most (get_or w 5 0 ∷ get_or w 6 0 ∷ get_or w 7 0 ∷ [])
    && flagged (get_or w 8 0) r.young_counts
    && flagged (get_or w 9 0) r.old_counts
    && tiles (get_or w 4 0) 0 r.lens
    && whole_cells r.young_cells
    && packed_cells (sum r.slot_lens) r.old_cells
