-- Sums of the lengths, the loop that counts allocations, and a cell that is read.
use mathlib.Core.Path.{◌≡◌, refl, sym, ap, ◌∙◌}
use mathlib.Core.List.{List, [], ◌∷◌, map}
use Prim.Native.Nat.{ℕ, suc, ◌+◌, ◌-◌, ◌*◌, ◌^◌, ◌≤◌, ◌<◌}
use native.Mathlib.Numerals.{add-one}
use native.Mathlib.Nat.{zero-add, le_antisymm}
use native.Mathlib.Omega.{arith}
use mir.Val.{Fits}
use mir.Syntax.{w64}
use lib.Dec.{ltb}
use lib.ListN.{length, get_or, take, drop, replicate, length-map, length-drop, get_or-map, get_or-eq_default}
use lib.Seq.{drop-cons, drop-length, length-take-le, drop_at, take-length}
use borrow.Author.Tests.{lt-ltb, le-ltb}
use Rattle.std.specs.Prelude.{Option, Some, None}
use Rattle.model.specs.Lists.{cons_if, flat, places, sum}
use Rattle.model.specs.Res.{ok}
use Rattle.model.specs.Records.{Cell, blank, cell_words}
use Rattle.model.specs.Heap.{held, in_use}
use Rattle.theorems.proofs.Cells.{cell-back, valid-words, words-length}
use Rattle.theorems.proofs.Regions.{lengths-sum, slots-back}
use Rattle.words.specs.Words.{padded}
use Rattle.words.proofs.Sums.{sum-within, sum-front}
use Rattle.value.specs.Value.{words_at}
use Rattle.slots.specs.Slots.{Packed, slots_of, Elder, slots_at, read_old, answer, valid_old, ReadBy}
use Rattle.value.specs.declared.Words.{Words}
use Rattle.slots.proofs.Flat.{use-split, sum-take, slot-cell, valid-at, kind_at, payload-at, offset_at}

-- the sums

pub front_fits : (l : List ℕ) (b : ℕ) → sum l < 2 ^ 64 → sum (take b l) < 2 ^ 64
front_fits l b h = omega (arith, sum-front l b)

pub sum-all : (l : List ℕ) (r : ℕ) → r ≡ sum (take (length l) l) → r ≡ sum l
sum-all l r e = e ∙ ap sum (take-length l)

-- `held`

pub record Counting (l : List ℕ) (n i : ℕ) : Type 0 where
  pub within : i ≤ length l
  pub below : n ≤ i
  pub is : n + length (places i (drop i l)) ≡ length (places 0 l)

pub count-begin : (l : List ℕ) → Counting l 0 0
count-begin l = record { within = omega arith; below = omega arith; is = zero-add (length (places 0 l)) }

module _ {l : List ℕ} {n i : ℕ} (v : Counting l n i) (h : i < length l) where
  next : n + length (cons_if (ltb 0 (get_or l i 0)) i (places (i + 1) (drop (i + 1) l))) ≡ length (places 0 l)
  unfolding places
  next = rw (add-one i) (ap (λ (r : List ℕ). n + length (places i r)) (sym (drop-cons l i 0 h)) ∙ v.is)

  pub count_yes : {m : ℕ} → 0 < get_or l i 0 → m ≡ n + 1 → Counting l m (i + 1)
  count_yes p e = record { within = omega arith; below = omega (arith, v.below); is = omega (arith, rw (lt-ltb 0 (get_or l i 0) p) at next) }

  pub count_no : {m : ℕ} → get_or l i 0 ≤ 0 → m ≡ n → Counting l m (i + 1)
  count_no p e = record { within = omega arith; below = omega (arith, v.below); is = omega (arith, rw (le-ltb 0 (get_or l i 0) p) at next) }

pub count-done : {l : List ℕ} {n i : ℕ} → Counting l n i → length l ≤ i → n ≡ length (places 0 l)
unfolding places
count-done {l} {n} {i} v h =
    let e : i ≡ length l = le_antisymm v.within h in
    let z : drop i l ≡ [] = ap (λ (k : ℕ). drop k l) e ∙ drop-length l in
    omega (arith, rw z at v.is)

-- what it says of slots
pub held-places : (ss : List (List Cell)) (i : ℕ) → length (places i (map length ss)) ≡ held ss
unfolding held places
held-places [] i = refl
held-places ([] ∷ ss) i = held-places ss (suc i)
held-places ((c ∷ cs) ∷ ss) i = rw (lt-ltb 0 (suc (length cs)) (omega arith)) (ap suc (held-places ss (suc i)))

-- packed words

module _ {ls ws : List ℕ} {ss : List (List Cell)} (v : Packed ls ws ss) where
  pub packed-is : slots_of ls ws ≡ ss
  unfolding slots_of padded
  packed-is = rw (v.lens, v.cells) (slots-back ss _ v.valid)

  pub packed-sum : sum ls ≡ in_use ss
  unfolding in_use
  packed-sum = ap sum v.lens ∙ lengths-sum ss

  pub packed_start : (b : ℕ) → sum (take b ls) ≡ in_use (take b ss)
  packed_start b = ap (λ (l : List ℕ). sum (take b l)) v.lens ∙ sum-take ss b

  pub packed-length : (b : ℕ) → get_or ls b 0 ≡ length (get_or ss b [])
  packed-length b = ap (λ (l : List ℕ). get_or l b 0) v.lens ∙ get_or-map length ss b []

  pub packed-size : length ls ≡ length ss
  packed-size = ap length v.lens ∙ length-map ss length

  pub packed-fits : length ws < 2 ^ 64 → sum ls < 2 ^ 64
  packed-fits h = omega (arith, packed-sum, v.fits)

  pub packed-rest : (k : ℕ) → k ≡ in_use ss * 3 → drop k ws ≡ replicate (length ws - k) 0
  unfolding padded in_use
  packed-rest k e =
      let l : length (cell_words (flat ss)) ≡ k = words-length (flat ss) ∙ sym e in
      ap (drop k) v.cells ∙ drop_at (cell_words (flat ss)) _ k l ∙ ap (λ (j : ℕ). replicate (length ws - j) 0) l

  -- `read_old`
  module _ (b o : ℕ) where
    none : length (get_or ss b []) ≤ o → ReadBy (read_old ss b o) None
    unfolding read_old answer valid_old
    none h = record { is = rw (le-ltb o (length (get_or ss b [])) h); valid = refl }

    pub read_out : length ls ≤ b → {r : Option Words} → r ≡ None → ReadBy (read_old ss b o) r
    read_out h e = rw e (none (omega (arith, packed-length b, get_or-eq_default ls 0 h)))

    module _ {n : ℕ} (got : (b < length ls) × ((d : ℕ) → n ≡ get_or ls b d)) where
      pub read_past : n ≤ o → ReadBy (read_old ss b o) None
      read_past h = none (omega (arith, packed-length b, got.1 0))

      module _ (k : o < n) (f : ℕ) (e : f ≡ sum (take b ls)) where
        read_below : f + o < in_use ss
        read_below = omega (arith, packed-length b, got.1 0, packed_start b, use-split ss b (omega (arith, packed-size, got.0)))

        pub read_fits : length ws < 2 ^ 64 → Fits w64 (f + o)
        read_fits l = omega (arith, read_below, v.fits)

        pub read-room : (f + o) * 3 + 3 ≤ length ws
        read-room = omega (arith, read_below, v.fits)

        pub read_cell : {r : Words} → r ≡ words_at ws (3 * (f + o)) → ReadBy (read_old ss b o) (Some r)
        unfolding read_old answer valid_old padded in_use
        read_cell g =
            let i : ℕ = in_use (take b ss) + o in
            let q : f + o ≡ i = omega (arith, packed_start b) in
            let z : List ℕ = replicate (length ws - length (cell_words (flat ss))) 0 in
            let p : o < length (get_or ss b []) = omega (arith, packed-length b, got.1 0) in
            let j : i < length (flat ss) = omega (arith, read_below, packed_start b) in
            let c : Cell = get_or (flat ss) i blank in
            let u = valid-at (flat ss) i j v.valid in
            rw (g, q, kind_at (flat ss) z v.cells i j, payload-at (flat ss) z v.cells i j, offset_at (flat ss) z v.cells i j) (record {
              is = rw (lt-ltb o (length (get_or ss b [])) p) (ap ok (cell-back c u ∙ slot-cell ss b o p));
              valid = valid-words c u;
            })

pub elder-is : {s at : ℕ} {w : List ℕ} {ss : List (List Cell)} → Elder s at w ss → slots_at s at w ≡ ss
unfolding slots_at
elder-is v = packed-is v.packed

-- the lengths, as they are lent
module _ {s at : ℕ} {w : List ℕ} {ss : List (List Cell)} (v : Elder s at w ss) where
  pub lens-count : s ≡ length (take s w)
  lens-count = sym (length-take-le s w (omega (arith, v.order, v.inside)))

  pub slots_length : length ss ≡ s
  slots_length = sym (packed-size v.packed) ∙ sym lens-count

  pub lens-below : (b : ℕ) → b < s → b < length (take s w)
  lens-below b h = omega (arith, lens-count)

  pub lens-fits : length w < 2 ^ 64 → sum (take s w) * 3 < 2 ^ 64
  lens-fits h = omega (arith, packed-sum v.packed, v.packed.fits, length-drop at w)

  pub lens-fits-1 : length w < 2 ^ 64 → sum (take s w) < 2 ^ 64
  lens-fits-1 h = omega (arith, lens-fits h)

-- `hole_of`

pub hole-fits : (l : List ℕ) (b x : ℕ) → sum l * 3 < 2 ^ 64 → x ≡ sum (take b l) → Fits w64 (3 * x)
hole-fits l b x h e = omega (arith, sum-front l b)

pub hole-inside : (l : List ℕ) (b : ℕ) {i k : ℕ} → i ≡ sum (take b l) → k ≡ sum l → 3 * i + 3 * get_or l b 0 ≤ 3 * k
hole-inside l b e f = omega (arith, sum-within l b)

pub hole-sum-fits : (l : List ℕ) (b : ℕ) → sum l * 3 < 2 ^ 64 → sum (take b l) < 2 ^ 64
hole-sum-fits l b h = omega (arith, sum-front l b)

pub hole-old-fits : (l : List ℕ) (b : ℕ) → sum l * 3 < 2 ^ 64 → Fits w64 (3 * get_or l b 0)
hole-old-fits l b h = omega (arith, sum-within l b)

pub ruleset counts = (front_fits, count-begin, packed-fits, lens-count, lens-below, lens-fits, lens-fits-1, hole-fits, hole-sum-fits, hole-old-fits)
