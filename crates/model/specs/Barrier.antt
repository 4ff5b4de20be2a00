-- Barrier (`WriteBarrier`): counts of a generation's pointers to the other heap, by the low byte of their base.
use Rattle.std.specs.Prelude.{Bool, true, false, ◌||◌, List, [], ◌∷◌, ℕ, suc, ◌-◌, ◌%◌, ltb, eqb, get_or, set, replicate}
use Rattle.std.specs.Int.Bits.{bit_and}
use Rattle.model.specs.Lists.{places}
use Rattle.model.specs.Res.{Res, ok, ◌>>=◌, ask}
use Rattle.model.specs.Records.{Cell, plain, ref}

pub data Barrier : Type 0 where
  absent : Barrier
  present : List ℕ → Barrier

-- 256 counts. The name keeps `take cache` from being computed on open lists
unfoldable pub cache : ℕ
cache = 256

-- the bound of each count and counter
unfoldable pub most : ℕ
most = 4294967295

unfoldable pub counts : Barrier → List ℕ
counts absent = replicate cache 0
counts (present cs) = cs

unfoldable pub count : Barrier → ℕ → ℕ
count b k = get_or (counts b) k 0

-- counting in makes it present
unfoldable pub up : ℕ → Barrier → Res Barrier
up k b = do
  _ ← ask 11 (ltb (count b k) most)
  ok (present (set (counts b) k (suc (count b k))))

-- counting out on an absent barrier does nothing
unfoldable pub down : ℕ → Barrier → Res Barrier
down k absent = ok absent
down k (present cs) = do
  _ ← ask 10 (ltb 0 (get_or cs k 0))
  ok (present (set cs k (get_or cs k 0 - 1)))

-- a cell of the generation `own` counted in, and out: only pointers to the other heap count, at base mod 256

unfoldable pub count_in : ℕ → Cell → Barrier → Res Barrier
count_in own (plain k v) b = ok b
count_in own (ref p) b = elim (eqb p.heap own) [ true ↦ ok b | false ↦ up (p.base % 256) b ]

unfoldable pub count_out : ℕ → Cell → Barrier → Res Barrier
count_out own (plain k v) b = ok b
count_out own (ref p) b = elim (eqb p.heap own) [ true ↦ ok b | false ↦ down (p.base % 256) b ]

-- the masks of a heap: the positions with a count above zero in the other's barrier
unfoldable pub masks : Barrier → List ℕ
masks absent = []
masks (present cs) = places 0 cs

-- mask m matches base b when every one bit of m is a one in b
unfoldable pub matches_mask : ℕ → ℕ → Bool
matches_mask m b = eqb (bit_and m b) m

unfoldable pub matches : List ℕ → ℕ → Bool
matches [] b = false
matches (m ∷ ms) b = matches_mask m b || matches ms b
