-- Question 7, of the lengths and of the heap.
use mathlib.Core.Path.{◌≡◌, refl, sym, ◌∙◌}
use mathlib.Core.Bool.{Bool, true, false}
use mathlib.Core.List.{List, [], ◌∷◌, map}
use Prim.Native.Nat.{ℕ, zero, suc, ◌+◌, ◌-◌, ◌*◌, ◌≤◌, ◌<◌}
use native.Mathlib.Nat.{not-suc-le-zero, le_of_suc-le-suc}
use native.Mathlib.Omega.{arith}
use lib.Dec.{ltb, leb}
use lib.ListN.{length, get_or, set, take, drop, length-map, length-drop}
use borrow.Author.Tests.{lt-ltb, le-ltb, le-leb, lt-leb}
use Rattle.model.specs.Lists.{flat, places, sum}
use Rattle.model.specs.Res.{ok, ◌>>=◌, ask}
use Rattle.model.specs.Records.{Cell}
use Rattle.model.specs.Heap.{Heap, held, in_use}
use Rattle.model.specs.Image.{decode}
use Rattle.model.specs.Elder.{new_base, room}
use Rattle.theorems.specs.Holds.{such}
use Rattle.theorems.specs.Fit.{Image}
use Rattle.theorems.proofs.Elder.{Room, room-is}
use Rattle.theorems.proofs.Kept.{fit-good}
use Rattle.theorems.proofs.Regions.{lengths-sum}
use Rattle.theorems.proofs.Res.{bind, holds_at}
use Rattle.slots.specs.Slots.{slots_in}
use Rattle.slots.specs.declared.Slots.{Slots}
use Rattle.slots.proofs.Flat.{map-set}
use Rattle.slots.proofs.Counts.{held-places}
use Rattle.image.specs.Laid.{Laid}
use Rattle.layout.specs.Elder.{fit_answer, fit_for, fit_words}
use Rattle.image.specs.declared.places.Layout.{Layout}
use Rattle.std.specs.Prelude.{Result, Ok, Err}
use Rattle.question.specs.declared.Question.{Question}
use Rattle.question.specs.declared.Question.TheVariants as question
use Rattle.layout.proofs.Tail.{s-is, c-is, slots_in-is, lens-lent}

-- `fit_in`

sum-set : (l : List ℕ) (i x : ℕ) → i < length l → sum (set l i x) + get_or l i 0 ≡ sum l + x
unfolding sum
sum-set [] i x h = absurd (not-suc-le-zero h)
sum-set (y ∷ l) zero x h = omega arith
sum-set (y ∷ l) (suc i) x h = omega (arith, sum-set l i x (le_of_suc-le-suc h))

module _ (ls : List ℕ) (c k b : ℕ) (e : b ≡ length (places 0 ls)) where
  pub fit-past : length ls ≤ b → fit_answer (Err question.Room) ≡ fit_words ls c k
  unfolding fit_words
  fit-past h = rw (← e, le-ltb b (length ls) h)

  module _ (h : b < length ls) (u : ℕ) (f : u ≡ sum ls) where
    left : sum (set ls b 0) ≡ u - get_or ls b 0
    left = omega (arith, sum-set ls b 0 h)

    pub fit-elem : get_or ls b 0 ≤ u
    fit-elem = omega (arith, sum-set ls b 0 h)

    module _ (s : sum ls ≤ c) where
      pub fit_none : c - (u - get_or ls b 0) < k → fit_answer (Err question.Room) ≡ fit_words ls c k
      unfolding fit_words
      fit_none g = rw (← e, lt-ltb b (length ls) h, lt-leb (sum (set ls b 0) + k) c (omega (arith, left)))

      pub fit_at : k ≤ c - (u - get_or ls b 0) → fit_answer (Ok b) ≡ fit_words ls c k
      unfolding fit_words
      fit_at g = rw (← e, lt-ltb b (length ls) h, le-leb (sum (set ls b 0) + k) c (omega (arith, left)))

-- `room_for`: the lengths are those of the heap's slots

fit_is : (h : Heap) (k : ℕ) → length h.old.slots ≡ h.size.s → fit_words (map length h.old.slots) h.size.c k ≡ fit_for k h
unfolding fit_words fit_for room new_base in_use
fit_is h k e =
    let ss : List (List Cell) = h.old.slots in
    rw (held-places ss 0, length-map ss length, e, ← map-set length ss (held ss) [], lengths-sum (set ss (held ss) [])) (go (ltb (held ss) h.size.s) (leb (length (flat (set ss (held ss) [])) + k) h.size.c) (held ss))
  where
    go : (x y : Bool) (b : ℕ) → (ask 7 x >>= λ _. ask 7 y >>= λ _. ok b) ≡ ((ask 7 x >>= λ _. ask 7 y) >>= λ _. ok b)
    go true y b = refl
    go false y b = refl

module _ {w : List ℕ} (i : Image w (decode w)) {l : Layout} (p : Laid w l) where
  pub fit-room : sum (take (l.young - l.slots) (drop l.slots w)) ≤ l.c
  unfolding in_use
  fit-room = rw (lens-lent i p, lengths-sum (decode w).old.slots, c-is i p) i.fit.old.room

  pub fit-for : (k : ℕ) (r : Result ℕ Question) → fit_answer r ≡ fit_words (take (l.young - l.slots) (drop l.slots w)) l.c k → fit_answer r ≡ fit_for k (decode w)
  fit-for k r e = (rw (lens-lent i p, c-is i p) at e) ∙ fit_is (decode w) k i.fit.old.slots

  -- what an answered base says: `put` rests on it
  module _ (k b : ℕ) (e : ok b ≡ fit_for k (decode w)) where
    abbrev Fits : ℕ → Type 0
    Fits n = Room (decode w).size k (decode w).old × (held (decode w).old.slots ≡ n)

    fit-says : Fits b
    unfolding fit_for new_base
    fit-says = holds_at {P = Fits} (bind _ (room-is (decode w).size k (decode w).old (fit-good i.fit).old) (λ _ r. such (r, refl))) (sym e)

    pub fit-base : {n : ℕ} → n ≡ l.s → b < n
    fit-base is = omega (arith, is, fit-says.0.base, fit-says.1, i.fit.old.slots, s-is i p)

    module _ (x : Slots) (d : x.words.now ≡ drop l.slots w) (is : x.s ≡ l.s) (ia : x.at ≡ l.old - l.slots) where
      pub fit-cells : (in_use (set (slots_in x) b []) + k) * 3 ≤ length x.words.now - x.at
      unfolding in_use
      fit-cells =
          let cells = rw fit-says.1 at fit-says.0.cells in
          rw (slots_in-is i p x d is ia, d, ia) (omega (arith, length-drop l.slots w, p.young, p.old, p.end, c-is i p))

pub ruleset rooms = (fit-past, fit-elem, fit_none, fit_at, fit-room, fit-for, fit-base, fit-cells)
