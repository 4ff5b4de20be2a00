-- The turns of the cycle on a heap. `parts` has the cells of each allocation that may be moved; `roots` and `ms` are those of the
-- elder's collections: the call's unmoved roots, and the masks of its start.
use Rattle.std.specs.Prelude.{Bool, true, false, ◌&&◌, not, List, [], ◌∷◌, ◌++◌, ℕ, ◌+◌, ◌-◌, ltb, leb, eqb}
use Rattle.model.specs.Res.{Res, ok, ◌>>=◌, each}
use Rattle.model.specs.Records.{Ptr, Cell, whole}
use Rattle.model.specs.Barrier.{masks}
use Rattle.model.specs.Heap.{Heap, held}
use Rattle.model.specs.Nursery.{bump}
use Rattle.fields.specs.Fields.{on_young}
use Rattle.elder.specs.Steps.{collect_step, place_step, blank_step}
use Rattle.nursery.specs.Steps as nursery
use Rattle.cycle.specs.declared.turns.Request.{Request}
use Rattle.cycle.specs.declared.turns.Request.TheVariants.{New, Move}

-- where a request went; the nursery's visits; what was moved, and to which base; the elder's collections, and their visits
pub record Turn : Type 0 where
  pub ptr : Ptr
  pub visits : ℕ
  pub moves : List (Ptr × ℕ)
  pub sweeps : ℕ
  pub entered : ℕ

unfoldable pub at : Ptr → Turn
at p = record { ptr = p; visits = 0; moves = []; sweeps = 0; entered = 0 }

-- the elder gives: Uninitialized cells, or those of a part

unfoldable pub in_elder : ℕ × Heap → Res (Turn × Heap)
in_elder x = ok (at (whole 1 x.0), x.1)

unfoldable pub give : (ℕ → List Cell) → Request → Heap → Res (Turn × Heap)
give parts (New a) h = blank_step a h >>= in_elder
give parts (Move b) h = place_step (parts b) h >>= in_elder

-- the nursery gives
unfoldable pub bumped : ℕ → Heap → Res (Turn × Heap)
bumped a h = ok (at (whole 0 h.young.cursor), on_young (λ y. bump y a) h)

-- does the nursery lack room? A move never asks it
unfoldable pub too_large : Request → Heap → Bool
too_large (New a) h = not (ltb a (h.size.n - h.young.cursor))
too_large (Move b) h = false

abbrev pub pick : {A : Type 0} → Bool → A → A → A
pick true x y = x
pick false x y = y

-- has the generation to be collected before it can give? `left` is 1 where the elder alone is left
unfoldable pub must_collect : Request → ℕ → Bool → Heap → Bool
must_collect what left collected h = pick (eqb left 1) (not collected && leb h.size.t (held h.old.slots)) (too_large what h)

-- the generation gives
unfoldable pub give_in : (ℕ → List Cell) → Request → ℕ → Heap → Res (Turn × Heap)
give_in parts (New a) left h = pick (eqb left 1) (give parts (New a) h) (bumped a h)
give_in parts (Move b) left h = give parts (Move b) h

-- Collections before it

-- what survivors got so far
pub record Pushed : Type 0 where
  pub moves : List (Ptr × ℕ)
  pub sweeps : ℕ
  pub entered : ℕ

unfoldable pub none : Pushed
none = record { moves = []; sweeps = 0; entered = 0 }

unfoldable pub noted : Ptr → Turn → Pushed → Pushed
noted p t m = record { moves = m.moves ++ (p, t.ptr.base) ∷ []; sweeps = m.sweeps + t.sweeps; entered = m.entered + t.entered }

unfoldable pub finished : ℕ → Pushed → Turn → Turn
finished visits m t = record { ptr = t.ptr; visits = visits; moves = m.moves; sweeps = m.sweeps; entered = m.entered }

unfoldable pub also_swept : ℕ → Turn → Turn
also_swept entered t = record { ptr = t.ptr; visits = t.visits; moves = t.moves; sweeps = 1; entered = entered }

module _ (parts : ℕ → List Cell) (roots : List Cell) (ms : List ℕ) where
  -- the elder's collection, then it gives
  unfoldable pub sweep_and_give : Request → Heap → Res (Turn × Heap)
  sweep_and_give what h = collect_step roots ms h >>= λ c. give parts what c.1 >>= λ x. ok (also_swept c.0 x.0, x.1)

  -- a survivor pushed to the elder, which may have to be collected first
  unfoldable pub elder_turn : Request → Heap → Res (Turn × Heap)
  elder_turn what h = pick (must_collect what 1 false h) (sweep_and_give what h) (give parts what h)

  unfoldable pub push_one : Ptr → Pushed × Heap → Res (Pushed × Heap)
  push_one p m = elder_turn (Move p.base) m.1 >>= λ x. ok (noted p x.0 m.0, x.1)

  -- tried in the emptied nursery, then given to the elder without a collection
  unfoldable pub again_turn : Request → Heap → Res (Turn × Heap)
  again_turn what h = pick (must_collect what 2 true h) (give parts what h) (give_in parts what 2 h)

  -- the nursery's collection, its survivors pushed, then the request again
  unfoldable pub collect_and_push : Request → Heap → Res (Turn × Heap)
  collect_and_push what h =
      nursery.collect_step roots (masks h.old.bar) h >>= λ c.
      each push_one c.0.1 (none, c.1) >>= λ m.
      again_turn what m.1 >>= λ x.
      ok (finished c.0.0 m.0 x.0, x.1)

  -- `collect_and_push_allocation`
  unfoldable pub push_turn : Request → ℕ → Bool → Heap → Res (Turn × Heap)
  push_turn what left collected h = pick collected (give parts what h) (pick (eqb left 1) (sweep_and_give what h) (collect_and_push what h))

  -- `alloc_or_collect`
  unfoldable pub turn : Request → ℕ → Bool → Heap → Res (Turn × Heap)
  turn what left collected h = pick (must_collect what left collected h) (push_turn what left collected h) (give_in parts what left h)
