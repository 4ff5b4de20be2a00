-- Cells put at a base.
use mathlib.Core.Path.{◌≡◌, refl, sym, ap, ◌∙◌}
use mathlib.Core.Bool.{true}
use mathlib.Core.Logic.{⊎_elim}
use mathlib.Core.List.{List, [], ◌++◌, map, append_assoc}
use Prim.Native.Nat.{ℕ, zero, suc, ◌+◌, ◌-◌, ◌*◌, ◌≤◌, ◌<◌}
use native.Mathlib.Omega.{arith}
use lib.ListN.{length, get_or, set, take, drop, replicate, length-drop, length-set, length-replicate}
use lib.Seq.{length-take-le, take_at, drop_at, drop-drop, take-set-lt, set-append_left}
use Rattle.model.specs.Lists.{flat, sum}
use Rattle.model.specs.Records.{Cell, blank, cell_words, all_valid}
use Rattle.model.specs.Heap.{in_use}
use Rattle.theorems.proofs.Cells.{words-length, valid-blanks, whole_back, whole-valid}
use Rattle.theorems.proofs.Contents.{valid-all, all_valid_lem, set-from}
use Rattle.words.specs.Words.{padded}
use Rattle.words.specs.Source.{filling, cells_from, count_of}
use Rattle.words.specs.declared.Source.{Source}
use Rattle.words.specs.declared.Source.TheVariants.{Blank, Given}
use Rattle.trace.proofs.Places.{in-length}
use Rattle.slots.specs.Slots.{Elder, Changed, slots_at}
use Rattle.slots.proofs.Flat.{flat-split, flat-put, use-split, use-put, words_append, map-set}
use Rattle.slots.proofs.Counts.{packed-sum, packed_start, packed-length, packed-rest, slots_length}
use Rattle.slots.proofs.Parts.{lent, returned, lent_is, lent_length, returned-is, between-store}
use Rattle.slots.proofs.Changes.{changed}

-- the cells' words, cut around the slot b
module _ (ws : List ℕ) (ss : List (List Cell)) (b : ℕ) (h : b < length ss) (e : ws ≡ padded (cell_words (flat ss)) (length ws)) where
  abbrev p : List ℕ
  p = cell_words (flat (take b ss))

  abbrev x : List ℕ
  x = cell_words (get_or ss b [])

  abbrev q : List ℕ
  q = cell_words (flat (drop (suc b) ss))

  abbrev z : List ℕ
  z = replicate (length ws - length (cell_words (flat ss))) 0

  cut-words : ws ≡ p ++ (x ++ (q ++ z))
  unfolding padded
  cut-words =
      e
      ∙ ap (λ (l : List Cell). cell_words l ++ z) (flat-split ss b h)
      ∙ ap (λ (r : List ℕ). r ++ z) (words_append (flat (take b ss)) (get_or ss b [] ++ flat (drop (suc b) ss)) ∙ ap (λ (r : List ℕ). p ++ r) (words_append (get_or ss b []) (flat (drop (suc b) ss))))
      ∙ append_assoc p (x ++ q) z
      ∙ ap (λ (r : List ℕ). p ++ r) (append_assoc x q z)

  module _ (i j k : ℕ) (ei : i ≡ in_use (take b ss) * 3) (ej : j ≡ length (get_or ss b []) * 3) (ek : k ≡ in_use ss * 3) where
    lp : length p ≡ i
    unfolding in_use
    lp = words-length (flat (take b ss)) ∙ sym ei

    lx : length x ≡ j
    lx = words-length (get_or ss b []) ∙ sym ej

    pub at_slot : take j (drop i ws) ≡ cell_words (get_or ss b [])
    at_slot = rw (cut-words, drop_at p (x ++ (q ++ z)) i lp) (take_at x (q ++ z) j lx)

    behind-slot : take (k - (i + j)) (drop (i + j) ws) ≡ q
    unfolding in_use
    behind-slot =
        let lq : length q ≡ k - (i + j) = words-length (flat (drop (suc b) ss)) ∙ omega (arith, use-split ss b h) in
        rw (← drop-drop j i ws, cut-words, drop_at p (x ++ (q ++ z)) i lp, drop_at x (q ++ z) j lx) (take_at q z (k - (i + j)) lq)

    replaced : (cs : List Cell) → take i ws ++ (cell_words cs ++ take (k - (i + j)) (drop (i + j) ws)) ≡ cell_words (flat (set ss b cs))
    replaced cs =
        let before : take i ws ≡ p = rw cut-words (take_at p (x ++ (q ++ z)) i lp) in
        rw (before, behind-slot, flat-put ss b h cs, words_append (flat (take b ss)) (cs ++ flat (drop (suc b) ss)), words_append cs (flat (drop (suc b) ss)))

pub set-valid : (ss : List (List Cell)) (b : ℕ) (cs : List Cell) → all_valid (flat ss) ≡ true → all_valid cs ≡ true → all_valid (flat (set ss b cs)) ≡ true
set-valid ss b cs v u = valid-all _ (λ c m. ⊎_elim (all_valid_lem (flat ss) v c) (all_valid_lem cs u c) (set-from ss b cs m))

-- `place`: i, j and k are the hole's

module _ {s at : ℕ} {w : List ℕ} {ss : List (List Cell)} (v : Elder s at w ss) (b i j k : ℕ) (ei : i ≡ sum (take b (take s w)) * 3) (ej : j ≡ get_or (take s w) b 0 * 3) (ek : k ≡ sum (take s w) * 3) where
  fi : i ≡ in_use (take b ss) * 3
  fi = omega (arith, packed_start v.packed b)

  fj : j ≡ length (get_or ss b []) * 3
  fj = omega (arith, packed-length v.packed b)

  fk : k ≡ in_use ss * 3
  fk = omega (arith, packed-sum v.packed)

  pub place-zeros : drop k (lent at w) ≡ replicate (length (lent at w) - k) 0
  place-zeros = rw (lent_is w at v.inside) (packed-rest v.packed k fk)

  pub place-used : k ≤ length (lent at w)
  place-used = omega (arith, fk, lent_length w at v.inside, v.packed.fits, length-drop at w)

  module _ (h : b < s) where
    bs : b < length ss
    bs = omega (arith, slots_length v)

    module _ (len : ℕ) (r : (in_use (set ss b []) + len) * 3 ≤ length w - at) where
      place-room : (new : ℕ) → new ≡ len * 3 → k - j + new ≤ length (lent at w)
      place-room new e = omega (arith, fi, fj, fk, use-split ss b bs, use-put ss b bs [], lent_length w at v.inside)

      place-done : (cs : List Cell) → all_valid cs ≡ true → length cs ≡ len → {ys : List ℕ} → ys ≡ padded (take i (lent at w) ++ (cell_words cs ++ take (k - (i + j)) (drop (i + j) (lent at w)))) (length (lent at w))
          → Changed s at w (set (returned at w ys) b len) (set ss b cs)
      place-done cs u n {ys} e =
          let stored : set (returned at w ys) b len ≡ take at (set w b len) ++ ys =
          rw (returned-is w at v.inside ys, take-set-lt at w b len (omega (arith, v.order))) (set-append_left (take at w) ys b len (omega (arith, v.order, length-take-le at w v.inside))) in
          let lens : take s (set w b len) ≡ map length (set ss b cs) = rw (take-set-lt s w b len h, v.packed.lens, ← n) (sym (map-set length ss b cs)) in
          let words : ys ≡ padded (cell_words (flat (set ss b cs))) (length (lent at w)) =
          rw (← replaced (lent at w) ss b bs (rw (lent_is w at v.inside) v.packed.cells) i j k fi fj fk cs) e in
          rw stored (changed (set w b len) v.order (rw (length-set w b len) v.inside) (between-store w s at b len h v.order) (set ss b cs) lens (length (lent at w)) (omega (arith, use-put ss b bs [], use-put ss b bs cs, lent_length w at v.inside)) (set-valid ss b cs v.packed.valid u) ys words)

words-blank : (n : ℕ) → replicate (3 * n) 0 ≡ cell_words (replicate n blank)
unfolding cell_words blank
words-blank zero = refl
words-blank (suc n) = let e : 3 * suc n ≡ suc (suc (suc (3 * n))) = omega arith in rw (e, words-blank n)

-- what is placed

source-words : (src : Source) → filling src ≡ cell_words (cells_from src)
source-words (Blank n) = words-blank n
source-words (Given c) = sym (whole_back c.words.now c.whole)

pub source-count : (src : Source) → length (cells_from src) ≡ count_of src
source-count (Blank n) = length-replicate n blank
source-count (Given c) = in-length c.words.now

source-valid : (src : Source) → all_valid (cells_from src) ≡ true
source-valid (Blank n) = valid-blanks n
source-valid (Given c) = whole-valid c.words.now c.whole

module _ {s at : ℕ} {w : List ℕ} (v : Elder s at w (slots_at s at w)) (b i j k : ℕ) (ei : i ≡ sum (take b (take s w)) * 3) (ej : j ≡ get_or (take s w) b 0 * 3) (ek : k ≡ sum (take s w) * 3) (h : b < s)
    (src : Source) (r : (in_use (set (slots_at s at w) b []) + count_of src) * 3 ≤ length w - at) where
  pub source-room : k - j + length (filling src) ≤ length (lent at w)
  source-room = place-room v b i j k ei ej ek h (count_of src) r (length (filling src)) (omega (arith, ap length (source-words src), words-length (cells_from src), source-count src))

  -- the words that are handed on are the source's
  module _ {f : List ℕ} (e : f ≡ filling src) where
    pub handed-room : k - j + length f ≤ length (lent at w)
    handed-room = rw e source-room

    pub source-placed : {n : ℕ} → n ≡ count_of src → {ys : List ℕ} → ys ≡ padded (take i (lent at w) ++ (f ++ take (k - (i + j)) (drop (i + j) (lent at w)))) (length (lent at w))
        → Changed s at w (set (returned at w ys) b n) (set (slots_at s at w) b (cells_from src))
    source-placed q p =
        rw q (place-done v b i j k ei ej ek h (count_of src) r (cells_from src) (source-valid src) (source-count src) (rw (e ∙ source-words src) at p))

pub ruleset placed = (place-used, source-room, handed-room, place-zeros, source-placed)
