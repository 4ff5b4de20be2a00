-- What a `WriteBarrier` and a step on it are in the model.
use Rattle.std.specs.Prelude.{Bool, true, false, ◌&&◌, ◌||◌, not, List, [], ◌∷◌, ℕ, ◌%◌, ◌/◌, eqb, take}
use Rattle.model.specs.Res.{Res}
use Rattle.model.specs.Records.{Cell}
use Rattle.model.specs.Barrier.{Barrier, absent, present, count_in, count_out}
use Rattle.barrier.specs.declared.WriteBarrier.{WriteBarrier}
use Rattle.barrier.specs.declared.Way.{Way}
use Rattle.barrier.specs.declared.Way.TheVariants.{In, Out}
use Rattle.barrier.specs.declared.masks.Masks.{Masks}

abbrev pub barrier_if : Bool → List ℕ → Barrier
barrier_if true cs = present cs
barrier_if false cs = absent

abbrev pub barrier_of : WriteBarrier → Barrier
barrier_of b = barrier_if b.present b.counts

-- a cell counted in, or out
unfoldable pub step_of : Way → ℕ → Cell → Barrier → Res Barrier
step_of In own = count_in own
step_of Out own = count_out own

-- the first word of a cell that points to another heap than own
unfoldable pub crossing : ℕ → ℕ → Bool
crossing tag own = eqb (tag % 256) 5 && not (eqb (tag / 256) own)

-- one of these cells, three words each
unfoldable pub any_crossing : ℕ → List ℕ → Bool
any_crossing own [] = false
any_crossing own (a ∷ []) = false
any_crossing own (a ∷ x ∷ []) = false
any_crossing own (a ∷ x ∷ o ∷ w) = crossing a own || any_crossing own w

abbrev pub mask_list : Masks → List ℕ
mask_list m = take m.count m.places
