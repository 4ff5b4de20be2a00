-- An image's parts: barriers, the elder's slots, the ten words, and the six regions joined and taken apart.
use mathlib.Core.Path.{◌≡◌, refl, sym, ap, ap₂, ◌∙◌}
use mathlib.Core.Bool.{true, false≢true}
use mathlib.Core.List.{List, [], ◌∷◌, ◌++◌, map}
use Prim.Native.Nat.{ℕ, zero, suc, ◌+◌, ◌-◌, ◌*◌, ◌≤◌, ◌<◌}
use native.Mathlib.Omega.{arith}
use lib.ListN.{length, get_or, take, drop, replicate, length-append, length-take, length-drop, take-append-drop}
use lib.Seq.{drop-cons, take_at, drop_at}
use Rattle.model.specs.Lists.{flat, sum, all_at_most}
use Rattle.model.specs.Records.{Cell, cell_words, cells_of, all_valid}
use Rattle.model.specs.Barrier.{Barrier, absent, present, cache, counts}
use Rattle.model.specs.Heap.{Sizes, in_use}
use Rattle.model.specs.Image.{Regions, image_length, sizes_of, regions, flag, barrier, cut, flagged, packed_cells}
use Rattle.theorems.specs.Fit.{FitBarrier}
use borrow.Author.Tests.{leb-true}
use Rattle.theorems.proofs.Barrier.{zeros-bounded, absent-fit}
use Rattle.theorems.proofs.Lists.{and_parts}
use Rattle.theorems.proofs.Cells.{cells-back, cells_of-length, packed-valid, packed-back, packed-room}

-- a barrier, its flag and its counts

all-zero : (xs : List ℕ) → all_at_most 0 xs ≡ true → xs ≡ replicate (length xs) 0
unfolding all_at_most
all-zero [] e = refl
all-zero (x ∷ xs) e = let (small, r) = and_parts _ _ e in let zero : x ≡ 0 = omega (arith, leb-true x 0 small) in ap₂ ◌∷◌ zero (all-zero xs r)

pub barrier-back : (b : Barrier) → barrier (flag b) (counts b) ≡ b
unfolding barrier flag counts
barrier-back absent = refl
barrier-back (present cs) = refl

pub flag-back : (f : ℕ) (cs : List ℕ) → flagged f cs ≡ true → flag (barrier f cs) ≡ f
unfolding flagged flag barrier
flag-back zero cs e = refl
flag-back (suc zero) cs e = refl
flag-back (suc (suc f)) cs e = absurd (false≢true e)

pub counts-back : (f : ℕ) (cs : List ℕ) → flagged f cs ≡ true → length cs ≡ cache → counts (barrier f cs) ≡ cs
unfolding flagged barrier counts
counts-back zero cs e h = rw (← h) (sym (all-zero cs e))
counts-back (suc f) cs e h = refl

pub fit-flagged : (b : Barrier) → FitBarrier b → flagged (flag b) (counts b) ≡ true
unfolding flagged flag counts
fit-flagged absent g = zeros-bounded 0 cache
fit-flagged (present cs) g = g.bounded

pub flagged-fit : (f : ℕ) (cs : List ℕ) → flagged f cs ≡ true → length cs ≡ cache → FitBarrier (barrier f cs)
unfolding flagged barrier counts
flagged-fit zero cs e h = absent-fit
flagged-fit (suc zero) cs e h = record { size = h; bounded = e }
flagged-fit (suc (suc f)) cs e h = absurd (false≢true e)

-- lists laid end to end, and cut apart by their lengths
module _ {A : Type 0} where
  pub lengths-sum : (ss : List (List A)) → sum (map length ss) ≡ length (flat ss)
  unfolding sum flat
  lengths-sum [] = refl
  lengths-sum (s ∷ ss) = simp length-append (omega (arith, lengths-sum ss))

  cut-back : (ss : List (List A)) → cut (map length ss) (flat ss) ≡ ss
  unfolding cut flat
  cut-back [] = refl
  cut-back (s ∷ ss) = ap₂ ◌∷◌ (take_at s (flat ss) (length s) refl) (rw (drop_at s (flat ss) (length s) refl) (cut-back ss))

  pub cut-length : (ns : List ℕ) (xs : List A) → length (cut ns xs) ≡ length ns
  unfolding cut
  cut-length [] xs = refl
  cut-length (n ∷ ns) xs = ap suc (cut-length ns (drop n xs))

  cut-lengths : (ns : List ℕ) (xs : List A) → length xs ≡ sum ns → map length (cut ns xs) ≡ ns
  unfolding cut sum
  cut-lengths [] xs h = refl
  cut-lengths (n ∷ ns) xs h = ap₂ ◌∷◌ (simp length-take (omega arith)) (cut-lengths ns (drop n xs) (simp length-drop (omega arith)))

  flat-cut : (ns : List ℕ) (xs : List A) → length xs ≡ sum ns → flat (cut ns xs) ≡ xs
  unfolding cut flat sum
  flat-cut [] [] h = refl
  flat-cut [] (x ∷ xs) h = absurd (omega arith)
  flat-cut (n ∷ ns) xs h = rw (flat-cut ns (drop n xs) (simp length-drop (omega arith))) (take-append-drop n xs)

-- the elder's slots, from their lengths and the words of their cells

abbrev pub slots_in : List ℕ → List ℕ → List (List Cell)
slots_in ns w = cut ns (cells_of (sum ns) w)

pub slots-back : (ss : List (List Cell)) (w : List ℕ) → all_valid (flat ss) ≡ true → slots_in (map length ss) (cell_words (flat ss) ++ w) ≡ ss
slots-back ss w v = rw (lengths-sum ss, cells-back (flat ss) w v) (cut-back ss)

pub slots-lengths : (ns w : List ℕ) → map length (slots_in ns w) ≡ ns
slots-lengths ns w = cut-lengths ns (cells_of (sum ns) w) (cells_of-length (sum ns) w)

slots-flat : (ns w : List ℕ) → flat (slots_in ns w) ≡ cells_of (sum ns) w
slots-flat ns w = flat-cut ns (cells_of (sum ns) w) (cells_of-length (sum ns) w)

slots-used : (ns w : List ℕ) → in_use (slots_in ns w) ≡ sum ns
unfolding in_use
slots-used ns w = ap length (slots-flat ns w) ∙ cells_of-length (sum ns) w

module _ (ns w : List ℕ) (e : packed_cells (sum ns) w ≡ true) where
  pub slots-valid : all_valid (flat (slots_in ns w)) ≡ true
  slots-valid = rw slots-flat (packed-valid (sum ns) w e)

  module _ (c : ℕ) (h : length w ≡ c * 3) where
    pub slots-room : in_use (slots_in ns w) ≤ c
    slots-room = rw slots-used (omega (arith, packed-room (sum ns) w e))

    pub slots-words : cell_words (flat (slots_in ns w)) ++ replicate ((c - in_use (slots_in ns w)) * 3) 0 ≡ w
    slots-words =
        let rest : (c - sum ns) * 3 ≡ length w - sum ns * 3 = omega arith in
        rw (slots-used, slots-flat, rest) (packed-back (sum ns) w e)

-- the words from place k on, one by one
abbrev pub words_from : ℕ → ℕ → List ℕ → List ℕ
words_from k zero w = []
words_from k (suc n) w = get_or w k 0 ∷ words_from (suc k) n w

pub words-taken : (k n : ℕ) (w : List ℕ) → k + n ≤ length w → words_from k n w ≡ take n (drop k w)
words-taken k zero w h = refl
words-taken k (suc n) w h =
    let here : k < length w = omega arith in
    rw (drop-cons w k 0) (ap (λ (l : List ℕ). get_or w k 0 ∷ l) (words-taken (suc k) n w (omega arith)))

-- the regions, one after the other

unfoldable pub joined : Regions → List ℕ
joined r = r.young_counts ++ (r.old_counts ++ (r.lens ++ (r.slot_lens ++ (r.young_cells ++ r.old_cells))))

pub record Shape (z : Sizes) (r : Regions) : Type 0 where
  pub young_counts : length r.young_counts ≡ cache
  pub old_counts : length r.old_counts ≡ cache
  pub lens : length r.lens ≡ z.n
  pub slot_lens : length r.slot_lens ≡ z.s
  pub young_cells : length r.young_cells ≡ z.n * 3
  pub old_cells : length r.old_cells ≡ z.c * 3

cache-is : cache ≡ 256
unfolding cache
cache-is = refl

pub joined_length : (z : Sizes) (r : Regions) → Shape z r → 10 + length (joined r) ≡ image_length z
unfolding joined image_length
joined_length z r f = simp length-append (omega (arith, cache-is))

pub joined-regions : (w : List ℕ) → joined (regions w) ≡ drop 10 w
unfolding joined regions
joined-regions w = simp take-append-drop

pub regions-shape : (w : List ℕ) → length w ≡ image_length (sizes_of w) → Shape (sizes_of w) (regions w)
unfolding regions sizes_of image_length
regions-shape w h = record {
  young_counts = simp (length-take, length-drop) (omega (arith, cache-is));
  old_counts = simp (length-take, length-drop) (omega (arith, cache-is));
  lens = simp (length-take, length-drop) (omega (arith, cache-is));
  slot_lens = simp (length-take, length-drop) (omega (arith, cache-is));
  young_cells = simp (length-take, length-drop) (omega (arith, cache-is));
  old_cells = simp length-drop (omega (arith, cache-is));
}

parted : {l : List ℕ} {n : ℕ} (p q : List ℕ) → l ≡ p ++ q → length p ≡ n → (take n l ≡ p) × (drop n l ≡ q)
parted {n} p q e h = (rw e (take_at p q n h), rw e (drop_at p q n h))

pub regions-joined : (w : List ℕ) (r : Regions) → Shape (sizes_of w) r → drop 10 w ≡ joined r → regions w ≡ r
unfolding regions sizes_of joined
regions-joined w r f e =
    let (a, e₁) = parted r.young_counts _ e f.young_counts in
    let (b, e₂) = parted r.old_counts _ e₁ f.old_counts in
    let (c, e₃) = parted r.lens _ e₂ f.lens in
    let (d, e₄) = parted r.slot_lens _ e₃ f.slot_lens in
    let (x, y) = parted r.young_cells r.old_cells e₄ f.young_cells in
    λ i. record { young_counts = a i; old_counts = b i; lens = c i; slot_lens = d i; young_cells = x i; old_cells = y i }
