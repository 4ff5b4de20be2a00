-- The heap: its sizes and its two generations.
use Rattle.std.specs.Prelude.{Bool, ◌&&◌, List, [], ◌∷◌, ℕ, suc, leb, length, get_or, take, drop, replicate}
use Rattle.model.specs.Lists.{flat}
use Rattle.model.specs.Records.{Cell, blank}
use Rattle.model.specs.Barrier.{Barrier, absent}

-- nursery cells, threshold of the elder's allocations, elder slots, elder cells
pub record Sizes : Type 0 where
  pub n : ℕ
  pub t : ℕ
  pub s : ℕ
  pub c : ℕ

unfoldable pub in_bounds : Sizes → Bool
in_bounds z = leb z.n 2048 && leb z.t 8192 && leb z.s 8192 && leb z.c 65536

-- `lens` has at each base its length, else 0
pub record Nursery : Type 0 where
  pub cursor : ℕ
  pub colls : ℕ
  pub proms : ℕ
  pub bar : Barrier
  pub lens : List ℕ
  pub cells : List Cell

-- `slots` has at each base the cells of its allocation, [] where there is none
pub record Elder : Type 0 where
  pub colls : ℕ
  pub bar : Barrier
  pub slots : List (List Cell)

pub record Heap : Type 0 where
  pub size : Sizes
  pub young : Nursery
  pub old : Elder

unfoldable pub fresh : Sizes → Heap
fresh z = record {
  size = z;
  young = record { cursor = 0; colls = 0; proms = 0; bar = absent; lens = replicate z.n 0; cells = replicate z.n blank };
  old = record { colls = 0; bar = absent; slots = replicate z.s [] };
}

-- the part of the nursery's cells that the allocation at b occupies
unfoldable pub part : Nursery → ℕ → List Cell
part y b = take (get_or y.lens b 0) (drop b y.cells)

-- the number of the elder's allocations, and of their cells

unfoldable pub held : List (List Cell) → ℕ
held [] = 0
held ([] ∷ ss) = held ss
held ((c ∷ cs) ∷ ss) = suc (held ss)

unfoldable pub in_use : List (List Cell) → ℕ
in_use ss = length (flat ss)
