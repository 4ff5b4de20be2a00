use mathlib.Core.Path.{◌≡◌, refl, sym, ap, ◌∙◌}
use mathlib.Core.Bool.{Bool, true, false}
use mathlib.Core.List.{List, [], ◌∷◌, ◌++◌}
use Prim.Native.Nat.{ℕ, ◌+◌, ◌*◌, ◌^◌, ◌≤◌, ◌<◌}
use native.Mathlib.Omega.{arith}
use lib.ListN.{length, take, length-append}
use lib.Seq.{length-take-le}
use mir.Val.{Fits}
use mir.Syntax.{w64}
use Rattle.model.specs.Reach.{mem, enter}
use Rattle.model.specs.Records.{Ptr, same_ptr}
use Rattle.trace.specs.declared.Members.{Members}
use Rattle.trace.specs.Words.{members, listed, stored}
use Rattle.trace.specs.Entered.{entries, Room}
use Rattle.trace.proofs.Entries.{length-members, members-stored}
use Rattle.trace.proofs.Chunks.{listed-cut}
use Rattle.trace.proofs.Closure.{add-old, add-new, enter-grows}
use Rattle.trace.proofs.Members.enter.Goals as goal

module _ (l : Members) (p : Ptr) (room : Room l (p ∷ [])) where
  abbrev w : List ℕ
  w = l.words.now

  abbrev n : ℕ
  n = l.count

  room-count : 3 * n ≤ length w
  room-count = omega (arith, room.fits, enter-grows same_ptr (entries l) (p ∷ []), length-members n w)

  cut_fits : length w < 2 ^ 64 → Fits w64 (3 * n)
  cut_fits h = omega (arith, room-count)

  cut-length : 3 * n ≡ length (take (3 * n) w)
  cut-length = sym (length-take-le (3 * n) w room-count)

  -- r is what `find` says
  module _ {r : Bool} (told : r ≡ mem same_ptr p (listed (take (3 * n) w))) where
    said : r ≡ mem same_ptr p (members n w)
    said = told ∙ ap (mem same_ptr p) (listed-cut n w room-count)

    entered-old : r ≡ true → members n w ≡ enter same_ptr (entries l) (p ∷ [])
    unfolding enter
    entered-old e = sym (add-old same_ptr (members n w) p (sym said ∙ e))

    added : r ≡ false → enter same_ptr (entries l) (p ∷ []) ≡ members n w ++ p ∷ []
    unfolding enter
    added e = add-new same_ptr (members n w) p (sym said ∙ e)

    room-new : r ≡ false → 3 * n + 2 < length w
    room-new e = omega (arith, room.fits, simp length-append at (ap length (added e)), length-members n w)

    count_fits : r ≡ false → length w < 2 ^ 64 → Fits w64 (n + 1)
    count_fits e h = omega (arith, room-new e)

    entered-new : r ≡ false → {v : List ℕ} → v ≡ stored w n p → members (n + 1) v ≡ enter same_ptr (entries l) (p ∷ [])
    entered-new e s = rw s (members-stored w n p (room-new e)) ∙ sym (added e)

pub overflow_mul-n : goal.overflow_mul-n
overflow_mul-n c = search cut_fits

pub slice_bounds-find-end : goal.slice_bounds-find-end
slice_bounds-find-end c = search room-count

pub slice_bounds-find-end-2 : goal.slice_bounds-find-end-2
slice_bounds-find-end-2 c = search cut-length

pub returns-then-find : goal.returns-then-find
returns-then-find c = record { is = search entered-old; len = refl; same = refl }

pub store-requires : goal.store-requires
store-requires c = search room-new

pub overflow_add-self : goal.overflow_add-self
overflow_add-self c = search count_fits

pub returns : goal.returns
returns c = record { is = search entered-new; len = c.store.auto.list; same = refl }
