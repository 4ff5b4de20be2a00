-- Cells and their words: three words a cell, there and back.
use mathlib.Core.Path.{◌≡◌, refl, sym, ap, ap₂, ◌∙◌}
use mathlib.Core.Bool.{Bool, true, false, ◌&&◌, false≢true}
use mathlib.Core.List.{List, [], ◌∷◌, ◌++◌, append-nil}
use Prim.Native.Nat.{ℕ, zero, suc, ◌+◌, ◌-◌, ◌*◌, ◌%◌, ◌/◌, ◌≤◌, ◌<◌}
use native.Mathlib.Nat.{not-suc-le-zero, le_of_suc-le-suc}
use native.Mathlib.Omega.{arith}
use lib.Dec.{eqb, lit<}
use lib.ListN.{length, get_or, set, replicate, length-append, length-replicate}
use lib.Seq.{paste}
use Rattle.model.specs.Records.{Cell, plain, ref, blank, cell_words, cell_if, cell_of, cells_of, valid_plain, valid, all_valid, spare_zero, valid_words, whole_cells}
use Rattle.model.specs.Image.{packed_cells}
use Rattle.model.specs.Calls.{cells_in}
use borrow.Author.Tests.{eqb-true}
use Rattle.theorems.proofs.Lists.{and_left, and_right, and_parts}

-- the three words of one cell

abbrev pub kind_word : Cell → ℕ
kind_word (plain k v) = k
kind_word (ref p) = p.heap * 256 + 5

abbrev pub payload_word : Cell → ℕ
payload_word (plain k v) = v
payload_word (ref p) = p.base

abbrev pub offset_word : Cell → ℕ
offset_word (plain k v) = 0
offset_word (ref p) = p.off

pub words-cons : (c : Cell) (cs : List Cell) → cell_words (c ∷ cs) ≡ kind_word c ∷ payload_word c ∷ offset_word c ∷ cell_words cs
unfolding cell_words
words-cons (plain k v) cs = refl
words-cons (ref p) cs = refl

-- so no plain cell is taken for a pointer
pub plain-kind : (k v : ℕ) → valid_plain k v ≡ true → k < 5
unfolding valid_plain
plain-kind zero v e = lit< tt
plain-kind (suc zero) v e = lit< tt
plain-kind (suc (suc zero)) v e = lit< tt
plain-kind (suc (suc (suc zero))) v e = lit< tt
plain-kind (suc (suc (suc (suc zero)))) v e = lit< tt
plain-kind (suc (suc (suc (suc (suc k))))) v e = absurd (false≢true e)

pub cell-back : (c : Cell) → valid c ≡ true → cell_of (kind_word c) (payload_word c) (offset_word c) ≡ c
unfolding cell_of valid
cell-back (plain k v) e = go (eqb (k % 256) 5) refl
  where
    go : (t : Bool) → eqb (k % 256) 5 ≡ t → cell_if t k v 0 ≡ plain k v
    go true q = let small = plain-kind k v e in let five = eqb-true (k % 256) 5 q in absurd (omega arith)
    go false q = refl
cell-back (ref p) e =
    let kind : (p.heap * 256 + 5) % 256 ≡ 5 = omega arith in
    let heap : (p.heap * 256 + 5) / 256 ≡ p.heap = omega arith in
    rw (kind, heap)

pub valid-words : (c : Cell) → valid c ≡ true → valid_words (kind_word c) (payload_word c) (offset_word c) ≡ true
unfolding valid_words
valid-words c e = rw (cell-back c e, e) (spare c)
  where
    spare : (c : Cell) → spare_zero c (offset_word c) ≡ true
    spare (plain k v) = refl
    spare (ref p) = refl

pub cell-valid : (a b o : ℕ) → valid_words a b o ≡ true → valid (cell_of a b o) ≡ true
unfolding valid_words
cell-valid a b o e = and_left _ _ e

pub cell-words : (a b o : ℕ) (cs : List Cell) → valid_words a b o ≡ true → cell_words (cell_of a b o ∷ cs) ≡ a ∷ b ∷ o ∷ cell_words cs
unfolding cell_of valid_words cell_words
cell-words a b o cs e = go (eqb (a % 256) 5) refl e
  where
    go : (t : Bool) → eqb (a % 256) 5 ≡ t → (valid (cell_if t a b o) && spare_zero (cell_if t a b o) o) ≡ true → cell_words (cell_if t a b o ∷ cs) ≡ a ∷ b ∷ o ∷ cell_words cs
    go true q e = let five = eqb-true (a % 256) 5 q in let kind : a / 256 * 256 + 5 ≡ a = omega arith in rw kind
    go false q e = rw (eqb-true o 0 (and_right (valid (plain a b)) (eqb o 0) e))

-- a list of cells

pub words-length : (cs : List Cell) → length (cell_words cs) ≡ length cs * 3
unfolding cell_words
words-length [] = refl
words-length (c ∷ cs) = rw words-cons (omega (arith, words-length cs))

pub cells_of-length : (n : ℕ) (w : List ℕ) → length (cells_of n w) ≡ n
unfolding cells_of
cells_of-length zero w = refl
cells_of-length (suc n) w = ap suc (cells_of-length n _)

pub cells-back : (cs : List Cell) (w : List ℕ) → all_valid cs ≡ true → cells_of (length cs) (cell_words cs ++ w) ≡ cs
unfolding cells_of all_valid
cells-back [] w v = refl
cells-back (c ∷ cs) w v = let (vc, vs) = and_parts _ _ v in rw words-cons (ap₂ ◌∷◌ (cell-back c vc) (cells-back cs w vs))

pub valid-append : (a b : List Cell) → all_valid a ≡ true → all_valid b ≡ true → all_valid (a ++ b) ≡ true
unfolding all_valid
valid-append [] b v u = u
valid-append (c ∷ a) b v u = let (vc, vs) = and_parts (valid c) (all_valid a) v in rw vc (valid-append a b vs u)

pub valid-blanks : (n : ℕ) → all_valid (replicate n blank) ≡ true
unfolding all_valid valid valid_plain blank
valid-blanks zero = refl
valid-blanks (suc n) = valid-blanks n

-- one cell's words put in the place of cell i
pub cell-pasted : (cs : List Cell) (z : List ℕ) (i : ℕ) (c : Cell) → i < length cs → paste (cell_words cs ++ z) (3 * i) (cell_words (c ∷ [])) 3 ≡ cell_words (set cs i c) ++ z
unfolding cell_words
cell-pasted [] z i c h = absurd (not-suc-le-zero h)
cell-pasted (x ∷ cs) z zero c h = rw (words-cons x cs, words-cons c [], words-cons c cs)
cell-pasted (x ∷ cs) z (suc i) c h =
    let e : 3 * suc i + 3 ≡ suc (suc (suc (3 * i + 3))) = omega arith in
    let f : 3 * suc i ≡ suc (suc (suc (3 * i))) = omega arith in
    rw (e, f, words-cons x cs, words-cons x (set cs i c), ← cell-pasted cs z i c (le_of_suc-le-suc h))

-- words that are whole, valid cells

pub whole_words : (cs : List Cell) → all_valid cs ≡ true → whole_cells (cell_words cs) ≡ true
unfolding cell_words all_valid whole_cells
whole_words [] v = refl
whole_words (c ∷ cs) v = let (vc, vs) = and_parts _ _ v in rw (words-cons, valid-words c vc) (whole_words cs vs)

pub words-in : (cs : List Cell) → all_valid cs ≡ true → cells_in (cell_words cs) ≡ cs
unfolding cells_in
words-in cs v =
    let third : length (cell_words cs) / 3 ≡ length cs = omega (arith, words-length cs) in
    rw (third, ← append-nil (cell_words cs)) (cells-back cs [] v)

pub in-cons : (a b o : ℕ) (w : List ℕ) → cells_in (a ∷ b ∷ o ∷ w) ≡ cell_of a b o ∷ cells_in w
unfolding cells_in cells_of
in-cons a b o w = let third : length (a ∷ b ∷ o ∷ w) / 3 ≡ suc (length w / 3) = omega arith in rw third

pub whole_back : (w : List ℕ) → whole_cells w ≡ true → cell_words (cells_in w) ≡ w
unfolding whole_cells cells_in cells_of cell_words
whole_back [] e = refl
whole_back (a ∷ []) e = absurd (false≢true e)
whole_back (a ∷ b ∷ []) e = absurd (false≢true e)
whole_back (a ∷ b ∷ o ∷ w) e = let (v, r) = and_parts _ _ e in rw (in-cons, cell-words a b o (cells_in w) v, whole_back w r)

pub whole-valid : (w : List ℕ) → whole_cells w ≡ true → all_valid (cells_in w) ≡ true
unfolding whole_cells cells_in cells_of all_valid
whole-valid [] e = refl
whole-valid (a ∷ []) e = absurd (false≢true e)
whole-valid (a ∷ b ∷ []) e = absurd (false≢true e)
whole-valid (a ∷ b ∷ o ∷ w) e = let (v, r) = and_parts _ _ e in rw (in-cons, cell-valid a b o v) (whole-valid w r)

pub in-of : (n : ℕ) (w : List ℕ) → length w ≡ n * 3 → cells_in w ≡ cells_of n w
unfolding cells_in
in-of n w h = let third : length w / 3 ≡ n = omega arith in rw third

-- three of them are one
pub one_cell_lem : (w : List ℕ) → length w ≡ 3 → whole_cells w ≡ true
    → (w ≡ cell_words (cell_of (get_or w 0 0) (get_or w 1 0) (get_or w 2 0) ∷ [])) × (valid (cell_of (get_or w 0 0) (get_or w 1 0) (get_or w 2 0)) ≡ true)
unfolding whole_cells cell_words
one_cell_lem (a ∷ b ∷ o ∷ []) l e = let v = and_left _ _ e in (sym (cell-words a b o [] v), cell-valid a b o v)
one_cell_lem [] l e = absurd (omega arith)
one_cell_lem (a ∷ []) l e = absurd (omega arith)
one_cell_lem (a ∷ b ∷ []) l e = absurd (omega arith)
one_cell_lem (a ∷ b ∷ o ∷ x ∷ w) l e = absurd (omega arith)

pub whole_length : (w : List ℕ) → whole_cells w ≡ true → length (cells_in w) * 3 ≡ length w
whole_length w e = sym (words-length (cells_in w)) ∙ ap length (whole_back w e)

-- packed cells: so many, then zeros

pub packed-words : (cs : List Cell) (n : ℕ) → all_valid cs ≡ true → packed_cells (length cs) (cell_words cs ++ replicate (n * 3) 0) ≡ true
unfolding cell_words all_valid packed_cells
packed-words [] n v = zeros n
  where
    zeros : (n : ℕ) → packed_cells 0 (replicate (n * 3) 0) ≡ true
    zeros zero = refl
    zeros (suc n) = let three : suc n * 3 ≡ suc (suc (suc (n * 3))) = omega arith in rw three (zeros n)
packed-words (c ∷ cs) n v = let (vc, vs) = and_parts _ _ v in rw (words-cons, valid-words c vc) (packed-words cs n vs)

pub packed-valid : (k : ℕ) (w : List ℕ) → packed_cells k w ≡ true → all_valid (cells_of k w) ≡ true
unfolding packed_cells cells_of all_valid
packed-valid k [] e = rw (eqb-true k 0 e)
packed-valid k (a ∷ []) e = absurd (false≢true e)
packed-valid k (a ∷ b ∷ []) e = absurd (false≢true e)
packed-valid zero (a ∷ b ∷ o ∷ w) e = refl
packed-valid (suc k) (a ∷ b ∷ o ∷ w) e = let (v, r) = and_parts _ _ e in rw (cell-valid a b o v) (packed-valid k w r)

pub packed-back : (k : ℕ) (w : List ℕ) → packed_cells k w ≡ true → cell_words (cells_of k w) ++ replicate (length w - k * 3) 0 ≡ w
unfolding packed_cells cell_words cells_of
packed-back k [] e = rw (eqb-true k 0 e)
packed-back k (a ∷ []) e = absurd (false≢true e)
packed-back k (a ∷ b ∷ []) e = absurd (false≢true e)
packed-back zero (a ∷ b ∷ o ∷ w) e =
    let rest : suc (suc (suc (length w))) - 0 ≡ suc (suc (suc (length w - 0))) = omega arith in
    let (abo, r) = and_parts _ _ e in
    let (ab, o0) = and_parts _ _ abo in
    let (a0, b0) = and_parts _ _ ab in
    rw (rest, packed-back 0 w r, eqb-true a 0 a0, eqb-true b 0 b0, eqb-true o 0 o0)
packed-back (suc k) (a ∷ b ∷ o ∷ w) e =
    let rest : suc (suc (suc (length w))) - suc k * 3 ≡ length w - k * 3 = omega arith in
    let (v, r) = and_parts _ _ e in
    rw (rest, cell-words a b o (cells_of k w) v, packed-back k w r)

pub packed-room : (k : ℕ) (w : List ℕ) → packed_cells k w ≡ true → k * 3 ≤ length w
packed-room k w e = omega (arith, simp (length-append, words-length, cells_of-length, length-replicate) at (ap length (packed-back k w e)))
