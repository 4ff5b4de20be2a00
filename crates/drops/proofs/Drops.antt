-- Slot after slot, what is no member counted out.
use mathlib.Core.Path.{◌≡◌, refl, sym, ◌∙◌}
use mathlib.Core.Bool.{Bool, true, false, not, ◌&&◌, true≢false}
use mathlib.Core.List.{List, [], ◌∷◌, ◌++◌}
use Prim.Native.Nat.{ℕ, suc, ◌+◌, ◌-◌, ◌*◌, ◌^◌, ◌≤◌, ◌<◌}
use native.Mathlib.Numerals.{add-one}
use native.Mathlib.Omega.{arith}
use borrow.Author.Tests.{eqb-true}
use mir.Val.{Fits}
use mir.Syntax.{w64}
use lib.ListN.{length, get_or, take, drop, drop_of_length-le}
use lib.Seq.{drop-cons}
use Rattle.std.specs.Bool.{◌==◌}
use Rattle.std.proofs.Common.{Result, Ok, Err}
use Rattle.model.specs.Lists.{flat, only_if}
use Rattle.model.specs.Res.{Res, ok, refuse, ◌>>=◌, each}
use Rattle.model.specs.Reach.{mem}
use Rattle.model.specs.Records.{Ptr, Cell, cell_words, valid, all_valid, whole_cells, whole, same_ptr}
use Rattle.model.specs.Barrier.{Barrier, count_out}
use Rattle.model.specs.Heap.{in_use}
use Rattle.model.specs.Elder.{keeps, count_dropped}
use Rattle.model.specs.Calls.{cells_in}
use Rattle.theorems.proofs.Cells.{whole_words, words-in}
use Rattle.theorems.proofs.Lists.{and_parts}
use Rattle.question.specs.Question.{number, answer}
use Rattle.question.specs.declared.Question.{Question}
use Rattle.barrier.specs.declared.WriteBarrier.{WriteBarrier}
use Rattle.barrier.specs.Counts.{barrier_of, any_crossing}
use Rattle.barrier.proofs.Steps.{steps-out}
use Rattle.barrier.proofs.Turns.{quiet}
use Rattle.slots.specs.Slots.{Packed}
use Rattle.slots.proofs.Flat.{flat-split, use-split, use-next}
use Rattle.slots.proofs.Counts.{packed-length, packed-size}
use Rattle.slots.proofs.Places.{at_slot}
use Rattle.slots.proofs.Packs.{keeps-found}

valid-left : (a b : List Cell) → all_valid (a ++ b) ≡ true → all_valid a ≡ true
unfolding all_valid
valid-left [] b e = refl
valid-left (c ∷ a) b e = let (v, r) = and_parts (valid c) (all_valid (a ++ b)) e in rw (v, valid-left a b r)

valid-right : (a b : List Cell) → all_valid (a ++ b) ≡ true → all_valid b ≡ true
unfolding all_valid
valid-right [] b e = e
valid-right (c ∷ a) b e = let (v, r) = and_parts (valid c) (all_valid (a ++ b)) e in valid-right a b r

-- What a slot counts

abbrev slot_out : List Ptr → ℕ → List Cell → Barrier → Res Barrier
slot_out ps b cs = each (count_out 1) (only_if (not (keeps ps b)) cs)

-- whether it has cells to count out
abbrev Counts : List Ptr → ℕ → List ℕ → Bool
Counts ps b w = any_crossing 1 w && not (keeps ps b)

pub empty-stays : (ps : List Ptr) (b : ℕ) (w : List ℕ) → (length w == 0) ≡ true → false ≡ Counts ps b w
unfolding any_crossing
empty-stays ps b [] e = refl
empty-stays ps b (x ∷ w) e = absurd (omega (arith, eqb-true (length (x ∷ w)) 0 e))

pub quiet-stays : (ps : List Ptr) (b : ℕ) (w : List ℕ) {r : Bool} → r ≡ any_crossing 1 w → r ≡ false → false ≡ Counts ps b w
quiet-stays ps b w e q = rw (← e, q)

pub found-stays : (ps : List Ptr) (b : ℕ) (w : List ℕ) {r : Bool} → r ≡ any_crossing 1 w → r ≡ true → {m : Ptr} → m ≡ whole 1 b → {t : Bool} → t ≡ mem same_ptr m ps → not t ≡ Counts ps b w
found-stays ps b w e q d f = rw (← e, q, ← keeps-found ps b d f)

slot-stays : (ps : List Ptr) (b : ℕ) (w : List ℕ) (z : Barrier) → whole_cells w ≡ true → Counts ps b w ≡ false → slot_out ps b (cells_in w) z ≡ ok z
slot-stays ps b w z h e = go (keeps ps b) (any_crossing 1 w) refl e
  where
    go : (t u : Bool) → any_crossing 1 w ≡ u → (u && not t) ≡ false → each (count_out 1) (only_if (not t) (cells_in w)) z ≡ ok z
    go true u is e = refl
    go false false is e = quiet (steps-out 1) w h is z
    go false true is e = absurd (true≢false e)

slot-goes : (ps : List Ptr) (b : ℕ) (w : List ℕ) (z : Barrier) → Counts ps b w ≡ true → slot_out ps b (cells_in w) z ≡ each (count_out 1) (cells_in w) z
slot-goes ps b w z e = rw (and_parts (any_crossing 1 w) (not (keeps ps b)) e).1

-- `count_dropped`: the slots from b on, whose words start at `at`, are left

pub record Left (ps : List Ptr) (ls ws : List ℕ) (ss : List (List Cell)) (z₀ : Barrier) (b at : ℕ) (z : Barrier) : Type 0 where
  pub packed : Packed ls ws ss
  pub within : b ≤ length ls
  pub place : at ≡ in_use (take b ss) * 3
  pub rest : count_dropped ps b (drop b ss) z ≡ count_dropped ps 0 ss z₀

pub left-begin : (ps : List Ptr) (ls ws : List ℕ) (ss : List (List Cell)) (z : Barrier) → Packed ls ws ss → Left ps ls ws ss z 0 0 z
unfolding in_use flat
left-begin ps ls ws ss z v = record { packed = v; within = omega arith; place = refl; rest = refl }

module _ {ps : List Ptr} {ls ws : List ℕ} {ss : List (List Cell)} {z₀ z : Barrier} {b at : ℕ} (v : Left ps ls ws ss z₀ b at z) where
  pub left-done : length ls ≤ b → ok z ≡ count_dropped ps 0 ss z₀
  unfolding count_dropped
  left-done h =
      let none : drop b ss ≡ [] = drop_of_length-le ss {i = b} (omega (arith, packed-size v.packed)) in
      rw none at v.rest

  module _ (h : b < length ls) where
    inside : b < length ss
    inside = omega (arith, packed-size v.packed)

    long : get_or ls b 0 ≡ length (get_or ss b [])
    long = packed-length v.packed b

    pub left_end : at + 3 * get_or ls b 0 ≤ length ws
    left_end = omega (arith, v.place, long, use-split ss b inside, v.packed.fits)

    pub left-start : at ≤ length ws
    left-start = omega (arith, left_end)

    pub left-fits : length ws < 2 ^ 64 → Fits w64 (at + 3 * get_or ls b 0)
    left-fits k = omega (arith, left_end)

    pub left-fits-3 : length ws < 2 ^ 64 → Fits w64 (3 * get_or ls b 0)
    left-fits-3 k = omega (arith, left_end)

    abbrev part : List ℕ
    part = take (at + 3 * get_or ls b 0 - at) (drop at ws)

    part-is : part ≡ cell_words (get_or ss b [])
    part-is = at_slot ws ss b inside v.packed.cells at (at + 3 * get_or ls b 0 - at) (in_use ss * 3) v.place (omega (arith, long)) refl

    slot-valid : all_valid (get_or ss b []) ≡ true
    slot-valid = valid-left (get_or ss b []) (flat (drop (suc b) ss)) (valid-right (flat (take b ss)) _ (rw (flat-split ss b inside) at v.packed.valid))

    pub left-whole : whole_cells part ≡ true
    left-whole = rw part-is (whole_words (get_or ss b []) slot-valid)

    next : (slot_out ps b (cells_in part) z >>= count_dropped ps (b + 1) (drop (b + 1) ss)) ≡ count_dropped ps 0 ss z₀
    unfolding count_dropped
    next = rw (part-is, words-in (get_or ss b []) slot-valid, add-one b) (rw (drop-cons ss b [] inside) at v.rest)

    goes_on : {z' : Barrier} → slot_out ps b (cells_in part) z ≡ ok z' → Left ps ls ws ss z₀ (b + 1) (at + 3 * get_or ls b 0) z'
    goes_on taken = record {
      packed = v.packed;
      within = omega arith;
      place = rw (add-one b) (omega (arith, v.place, long, use-next ss b inside));
      rest = rw taken at next;
    }

    pub left-stays : Counts ps b part ≡ false → Left ps ls ws ss z₀ (b + 1) (at + 3 * get_or ls b 0) z
    left-stays e = goes_on (slot-stays ps b part z left-whole e)

    module _ (r : Result WriteBarrier Question) (d : Counts ps b part ≡ true) (e : answer barrier_of r ≡ each (count_out 1) (cells_in part) z) where
      counted-out : slot_out ps b (cells_in part) z ≡ answer barrier_of r
      counted-out = slot-goes ps b part z d ∙ sym e

      pub left-turn : (c : WriteBarrier) → r ≡ Ok c → Left ps ls ws ss z₀ (b + 1) (at + 3 * get_or ls b 0) (barrier_of c)
      left-turn c done = goes_on (counted-out ∙ rw done)

      pub left-refused : (q : Question) → r ≡ Err q → refuse (number q) ≡ count_dropped ps 0 ss z₀
      left-refused q refused =
          let no : slot_out ps b (cells_in part) z ≡ refuse (number q) = counted-out ∙ rw refused in
          rw no at next

pub ruleset told = (empty-stays, quiet-stays, found-stays)

pub ruleset laws = (left_end, left-fits, left-fits-3, left-whole)
