-- Reachability over any pointer type: the least set that has a start and is closed under a step (The Garbage Collection
-- Handbook), and the list that a walk makes of it, each pointer once, in order of entry.
use Rattle.std.specs.Prelude.{Bool, true, false, ◌||◌, ℕ, zero, suc}
use mathlib.Core.List.{List, [], ◌∷◌, ◌++◌, Memᴰ}
use Rattle.std.proofs.Math.Option.{none, some}
use Rattle.std.proofs.Math.ListN.{get_elem?}

-- The least set, by who is a start and who leads to whom: every other set that has this start and is closed under this
-- step contains it.
pub data Least {A : Type 0} (Start : A → Type 0) (Leads : A → A → Type 0) : A → Type 0 where
  begin : {x : A} → Start x → Least Start Leads x
  next : {x y : A} → Least Start Leads x → Leads x y → Least Start Leads y

abbrev pub NoDup : {A : Type 0} → List A → Type 0
NoDup [] = Unit {0}
NoDup (x ∷ xs) = (Memᴰ x xs → ⊥) × NoDup xs

-- the list holds each member of the least set, once, and nothing else: its length is the set's size
pub record Exact {A : Type 0} (Start : A → Type 0) (Leads : A → A → Type 0) (l : List A) : Type 0 where
  pub once : NoDup l
  pub sound : (x : A) → Memᴰ x l → Least Start Leads x
  pub complete : (x : A) → Least Start Leads x → Memᴰ x l

module _ {A : Type 0} (same : A → A → Bool) where
  unfoldable pub mem : A → List A → Bool
  mem x [] = false
  mem x (y ∷ ys) = same x y || mem x ys

  -- enter a pointer at the end of the list, if it is not there yet
  unfoldable pub add : List A → A → List A
  add l x = elim (mem x l) [ true ↦ l | false ↦ l ++ x ∷ [] ]

  unfoldable pub enter : List A → List A → List A
  enter l [] = l
  enter l (x ∷ xs) = enter (add l x) xs

  -- go through the list from place i, entering what each entry leads to; at most k entries are visited
  unfoldable pub walk : (A → List A) → ℕ → ℕ → List A → List A
  walk step zero i l = l
  walk step (suc k) i l = elim (get_elem? l i) [ none ↦ l | some x ↦ walk step k (suc i) (enter l (step x)) ]

  -- a bound that is at least the set's size walks all of it
  unfoldable pub closure : (A → List A) → ℕ → List A → List A
  closure step bound start = walk step bound 0 (enter [] start)
