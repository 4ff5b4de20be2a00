-- The `_formed` doors, which the Rust front end and the program use: calls on an image known to be formed.
use Rattle.std.specs.Prelude.{◌≡◌, List, [], ◌∷◌, ℕ}
use Rattle.model.specs.Heap.{Sizes, fresh}
use Rattle.model.specs.Image.{encode, decode}
use Rattle.model.specs.Calls.{alloc_on, read_on, write_on, Outcome, allocated, left, Call, allocs, reads, writes}
use Rattle.model.specs.Demand.{History, Demand}
use Rattle.theorems.specs.Fit.{Image}

-- what is left to ask of a formed image, by the definitions that the doors' contracts cite
abbrev pub on_formed : Call → List ℕ → Outcome
on_formed (allocs roots scratch amount) w = allocated w roots (alloc_on (decode w) roots scratch amount)
on_formed (reads p) w = record { answer = read_on (decode w) p; image = w; roots = [] }
on_formed (writes p value) w = left w (write_on (decode w) p value)

-- lists of calls through the doors, each on the image as the last one left it
pub data DoorHistory : List ℕ → List (Call × Outcome) → List ℕ → Type 0 where
  nothing : {w : List ℕ} → DoorHistory w [] w
  next : {w v : List ℕ} {l : List (Call × Outcome)} (c : Call) (o : Outcome) → o ≡ on_formed c w → DoorHistory o.image l v → DoorHistory w ((c, o) ∷ l) v

-- each call gets what its door requires: words that are the image of the heap that they decode to
abbrev pub AllFormed : List ℕ → List (Call × Outcome) → Type 0
AllFormed w [] = Unit {0}
AllFormed w (x ∷ l) = Image w (decode w) × AllFormed x.1.image l

-- demand 3 for the doors
pub record DoorDemand (z : Sizes) (l : List (Call × Outcome)) (v : List ℕ) : Type 0 where
  pub met : AllFormed (encode (fresh z)) l
  pub history : History (encode (fresh z)) l v
  pub demand : Demand z l v
