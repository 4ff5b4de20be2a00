-- Slots laid flat, and the words of their cells.
use mathlib.Core.Path.{◌≡◌, refl, sym, ap, ◌∙◌}
use mathlib.Core.Bool.{true}
use mathlib.Core.List.{List, [], ◌∷◌, ◌++◌, map, append_assoc, append-nil}
use Prim.Native.Nat.{ℕ, zero, suc, ◌+◌, ◌*◌, ◌≤◌, ◌<◌}
use native.Mathlib.Nat.{not-suc-le-zero, le_of_suc-le-suc, zero-add}
use native.Mathlib.Omega.{arith}
use lib.ListN.{length, get_or, set, take, drop, length-append, take-append-drop, get_or-append}
use lib.Seq.{split_at, set_split, take-suc, drop-cons, get_or-append-add, get_or-drop}
use Rattle.model.specs.Lists.{flat, sum}
use Rattle.model.specs.Records.{Cell, blank, valid, all_valid, cell_words}
use Rattle.model.specs.Heap.{in_use}
use Rattle.theorems.proofs.Cells.{kind_word, payload_word, offset_word, words-cons}
use Rattle.theorems.proofs.Contents.{all_valid_lem, at_mem}
use Rattle.theorems.proofs.Regions.{lengths-sum}

pub flat_append : (a b : List (List Cell)) → flat (a ++ b) ≡ flat a ++ flat b
unfolding flat
flat_append [] b = refl
flat_append (s ∷ a) b = rw (flat_append a b) (sym (append_assoc s (flat a) (flat b)))

pub words_append : (a b : List Cell) → cell_words (a ++ b) ≡ cell_words a ++ cell_words b
unfolding cell_words
words_append [] b = refl
words_append (c ∷ a) b = rw (words-cons c (a ++ b), words-cons c a, words_append a b)

-- slots around b

module _ (ss : List (List Cell)) (b : ℕ) (h : b < length ss) where
  pub flat-split : flat ss ≡ flat (take b ss) ++ (get_or ss b [] ++ flat (drop (suc b) ss))
  unfolding flat
  flat-split = ap flat (split_at ss b [] h) ∙ flat_append (take b ss) (get_or ss b [] ∷ drop (suc b) ss)

  pub flat-put : (x : List Cell) → flat (set ss b x) ≡ flat (take b ss) ++ (x ++ flat (drop (suc b) ss))
  unfolding flat
  flat-put x = ap flat (set_split ss b x h) ∙ flat_append (take b ss) (x ∷ drop (suc b) ss)

  pub use-split : in_use ss ≡ in_use (take b ss) + (length (get_or ss b []) + in_use (drop (suc b) ss))
  unfolding in_use
  use-split = ap length flat-split ∙ simp length-append

  pub use-put : (x : List Cell) → in_use (set ss b x) ≡ in_use (take b ss) + (length x + in_use (drop (suc b) ss))
  unfolding in_use
  use-put x = ap length (flat-put x) ∙ simp length-append

  pub use-next : in_use (take (suc b) ss) ≡ in_use (take b ss) + length (get_or ss b [])
  unfolding in_use flat
  use-next = rw (take-suc ss b [] h, flat_append) (simp (length-append, append-nil))

pub use-take : (ss : List (List Cell)) (b : ℕ) → in_use (take b ss) ≤ in_use ss
unfolding in_use
use-take ss b = omega (arith, ap length (flat_append (take b ss) (drop b ss)), length-append (flat (take b ss)) (flat (drop b ss)), ap (λ (l : List (List Cell)). length (flat l)) (take-append-drop b ss))

map-take : {A B : Type 0} (f : A → B) (n : ℕ) (l : List A) → take n (map f l) ≡ map f (take n l)
map-take f zero l = refl
map-take f (suc n) [] = refl
map-take f (suc n) (x ∷ l) = rw (map-take f n l)

pub map-set : {A B : Type 0} (f : A → B) (l : List A) (i : ℕ) (x : A) → map f (set l i x) ≡ set (map f l) i (f x)
map-set f [] i x = refl
map-set f (y ∷ l) zero x = refl
map-set f (y ∷ l) (suc i) x = rw (map-set f l i x)

pub sum-take : (ss : List (List Cell)) (b : ℕ) → sum (take b (map length ss)) ≡ in_use (take b ss)
unfolding in_use
sum-take ss b = ap sum (map-take length b ss) ∙ lengths-sum (take b ss)

-- a cell of a slot, in the flat list
pub slot-cell : (ss : List (List Cell)) (b o : ℕ) → o < length (get_or ss b []) → get_or (flat ss) (in_use (take b ss) + o) blank ≡ get_or (get_or ss b []) o blank
unfolding flat in_use
slot-cell [] b o h = absurd (not-suc-le-zero h)
slot-cell (s ∷ ss) zero o h = rw zero-add (get_or-append s (flat ss) blank o h)
slot-cell (s ∷ ss) (suc b) o h =
    let e : length (s ++ flat (take b ss)) + o ≡ length s + (length (flat (take b ss)) + o) = omega (arith, length-append s (flat (take b ss))) in
    rw (e, get_or-append-add) (slot-cell ss b o h)

-- the words of cells

pub valid-at : (cs : List Cell) (i : ℕ) → i < length cs → all_valid cs ≡ true → valid (get_or cs i blank) ≡ true
valid-at cs i h v = all_valid_lem cs v (get_or cs i blank) (at_mem cs i blank h refl)

words-drop : (cs : List Cell) (z : List ℕ) (i : ℕ) → i ≤ length cs → drop (i * 3) (cell_words cs ++ z) ≡ cell_words (drop i cs) ++ z
words-drop cs z zero h = refl
words-drop [] z (suc i) h = absurd (not-suc-le-zero h)
words-drop (c ∷ cs) z (suc i) h = let e : suc i * 3 ≡ suc (suc (suc (i * 3))) = omega arith in rw (e, words-cons c cs) (words-drop cs z i (le_of_suc-le-suc h))

module _ {w : List ℕ} (cs : List Cell) (z : List ℕ) (e : w ≡ cell_words cs ++ z) (i : ℕ) (h : i < length cs) where
  word_at : (j : ℕ) → get_or w (3 * i + j) 0 ≡ get_or (cell_words (get_or cs i blank ∷ drop (suc i) cs) ++ z) j 0
  word_at j =
      let q : 3 * i ≡ i * 3 = omega arith in
      rw (e, q, ← get_or-drop (i * 3) (cell_words cs ++ z) j 0, words-drop cs z i (omega arith), drop-cons cs i blank h)

  pub kind_at : get_or w (3 * i) 0 ≡ kind_word (get_or cs i blank)
  kind_at = let q : 3 * i ≡ 3 * i + 0 = omega arith in rw (q, word_at 0, words-cons)

  pub payload-at : get_or w (3 * i + 1) 0 ≡ payload_word (get_or cs i blank)
  payload-at = rw (word_at 1, words-cons)

  pub offset_at : get_or w (3 * i + 2) 0 ≡ offset_word (get_or cs i blank)
  offset_at = rw (word_at 2, words-cons)

-- three stores are one of a cell
pub put-cell : (cs : List Cell) (i : ℕ) (c : Cell) → i < length cs → set (set (set (cell_words cs) (3 * i) (kind_word c)) (3 * i + 1) (payload_word c)) (3 * i + 2) (offset_word c) ≡ cell_words (set cs i c)
put-cell [] i c h = absurd (not-suc-le-zero h)
put-cell (x ∷ cs) zero c h = rw (words-cons x cs, words-cons c cs)
put-cell (x ∷ cs) (suc i) c h =
    let e₁ : 3 * suc i + 1 ≡ suc (suc (suc (3 * i + 1))) = omega arith in
    let e₂ : 3 * suc i + 2 ≡ suc (suc (suc (3 * i + 2))) = omega arith in
    let e₀ : 3 * suc i ≡ suc (suc (suc (3 * i))) = omega arith in
    rw (e₁, e₂, e₀, words-cons x cs, words-cons x (set cs i c), put-cell cs i c (le_of_suc-le-suc h))
