-- Cells that hold a pointer are changed.
use mathlib.Core.Path.{◌≡◌, refl, sym, ap, ◌∙◌}
use mathlib.Core.Bool.{Bool, true, false, not, ◌&&◌, false≢true}
use mathlib.Core.Logic.{⊎_elim}
use mathlib.Core.List.Memᴰ
use mathlib.Core.List.{List, [], ◌∷◌, ◌++◌, map, append-nil}
use Prim.Native.Nat.{ℕ, zero, suc, ◌+◌, ◌*◌, ◌/◌, ◌≤◌, ◌<◌}
use native.Mathlib.Numerals.{add-one}
use native.Mathlib.Nat.{not-suc-le-zero, le_of_suc-le-suc}
use native.Mathlib.Omega.{arith}
use borrow.Author.Tests.{eqb-true}
use mir.Syntax.{w64}
use mir.Val.{Fits, to_z, of_z}
use mir.ValLaws.{of_z-to_z}
use lib.Dec.{eqb}
use lib.IntN.{ℤ}
use lib.ListN.{length, get_or, set, take, drop}
use lib.Seq.{paste, set-get_or, take-length, drop-length}
use Rattle.model.specs.Lists.{cons_if, keep_if}
use Rattle.model.specs.Records.{Ptr, Cell, plain, ref, blank, cell_words, valid, all_valid, whole_cells}
use Rattle.model.specs.Collector.{moved_to, holds, swap_cell}
use Rattle.model.specs.Calls.{cells_in}
use Rattle.theorems.proofs.Barrier.{bit}
use Rattle.theorems.proofs.Cells.{kind_word, payload_word, offset_word, plain-kind, whole_words, words-in, whole_back, whole-valid, whole_length, cell-pasted}
use Rattle.theorems.proofs.Contents.{valid-all, all_valid_lem, valid-swap}
use Rattle.theorems.proofs.Lists.{and_parts, eqb_same, take_in, drop-in}
use Rattle.theorems.proofs.Members.{same_ptr-eq, same_ptr-refl}
use Rattle.value.specs.Value.{value_cell, words_at}
use Rattle.value.specs.declared.Value.TheVariants.{Pointer as PointerV}
use Rattle.value.specs.declared.Words.{Words}
use Rattle.trace.specs.Words.{pointer}
use Rattle.trace.proofs.Places.{in-length}
use Rattle.slots.proofs.Flat.{valid-at, kind_at, payload-at, offset_at}

-- `Move::was`: x is the offset's i64
pub was-cell : (h b o : ℕ) {x : ℤ} → Fits w64 o → x ≡ to_z w64 o → value_cell (PointerV (record { heap = h; base = b; offset = to_z w64 (of_z w64 x) })) ≡ ref (pointer h b o)
unfolding value_cell
was-cell h b o s is =
    let back : of_z w64 (to_z w64 o) ≡ o = of_z-to_z w64 o s in
    ap (λ (k : ℕ). ref (pointer h b k)) (ap (λ (y : ℤ). of_z w64 (to_z w64 (of_z w64 y))) is ∙ ap (λ (k : ℕ). of_z w64 (to_z w64 k)) back ∙ back)

pub ruleset moves = (was-cell)

false_of : (t : Bool) → (t ≡ true → ⊥) → t ≡ false
false_of true h = absurd (h refl)
false_of false h = refl

pub holds-is : (p : Ptr) (c : Cell) → holds p c ≡ true → c ≡ ref p
unfolding holds
holds-is p (plain k v) e = absurd (false≢true e)
holds-is p (ref q) e = ap ref (sym (same_ptr-eq p q e))

-- a valid cell with the pointer's three words
is-ref : (p : Ptr) (c : Cell) → valid c ≡ true → kind_word c ≡ p.heap * 256 + 5 → payload_word c ≡ p.base → offset_word c ≡ p.off → c ≡ ref p
unfolding valid
is-ref p (plain k v) e x y z = let small = plain-kind k v e in absurd (omega arith)
is-ref p (ref q) e x y z = let same : q.heap ≡ p.heap = omega arith in λ i. ref (pointer (same i) (y i) (z i))

swap-no : (m : Ptr × ℕ) (c : Cell) → holds m.0 c ≡ false → swap_cell m c ≡ c
unfolding swap_cell
swap-no m c e = rw (e, swap_cell)

swap-yes : (m : Ptr × ℕ) (c : Cell) → holds m.0 c ≡ true → swap_cell m c ≡ ref (moved_to m)
unfolding swap_cell
swap-yes m c e = rw (e, swap_cell)

-- `swap_at`

-- cs with the i-th changed, and whether it was
abbrev SwappedAt : Ptr × ℕ → ℕ → List Cell → List ℕ → Bool → Type 0
SwappedAt m i cs v r = (v ≡ cell_words (set cs i (swap_cell m (get_or cs i blank)))) × (r ≡ holds m.0 (get_or cs i blank))

-- the comparison of words

abbrev same : Words → Words → Bool
same a x = eqb a.tag x.tag && (eqb a.payload x.payload && eqb a.offset x.offset)

abbrev Equal : Words → Words → Type 0
Equal a x = (a.tag ≡ x.tag) × (a.payload ≡ x.payload) × (a.offset ≡ x.offset)

equal-same : (a x : Words) → Equal a x → same a x ≡ true
equal-same a x (d, e, f) = rw (d, e, f, eqb_same x.tag, eqb_same x.payload, eqb_same x.offset)

same-equal : (a x : Words) → same a x ≡ true → Equal a x
same-equal a x e =
    let (d, r) = and_parts (eqb a.tag x.tag) (eqb a.payload x.payload && eqb a.offset x.offset) e in
    let (f, g) = and_parts (eqb a.payload x.payload) (eqb a.offset x.offset) r in
    (eqb-true _ _ d, eqb-true _ _ f, eqb-true _ _ g)

module _ (m : Ptr × ℕ) (i : ℕ) (w : List ℕ) (u : whole_cells w ≡ true) (l : i * 3 + 2 < length w) where
  abbrev cs : List Cell
  cs = cells_in w

  -- the i-th
  abbrev c : Cell
  c = get_or cs i blank

  inside : i < length cs
  inside = omega (arith, whole_length w u)

  w-is : w ≡ cell_words cs ++ []
  w-is = sym (whole_back w u) ∙ sym (append-nil (cell_words cs))

  missed : (c ≡ ref m.0 → ⊥) → SwappedAt m i cs w false
  missed other =
      let none : holds m.0 c ≡ false = false_of (holds m.0 c) (λ h. other (holds-is m.0 c h)) in
      (rw (swap-no m c none, set-get_or cs i blank) (sym (whole_back w u)), sym none)

  -- x is the pointer's words
  module _ (x : Words) {v : Cell} (was : v ≡ ref m.0) (made : (x.tag ∷ x.payload ∷ x.offset ∷ []) ≡ cell_words (v ∷ [])) where
    x-is : Equal x (record { tag = m.0.heap * 256 + 5; payload = m.0.base; offset = m.0.off })
    unfolding cell_words
    x-is =
        let e : (x.tag ∷ x.payload ∷ x.offset ∷ []) ≡ cell_words (ref m.0 ∷ []) = made ∙ ap (λ (d : Cell). cell_words (d ∷ [])) was in
        (ap (λ (k : List ℕ). get_or k 0 0) e, ap (λ (k : List ℕ). get_or k 1 0) e, ap (λ (k : List ℕ). get_or k 2 0) e)

    pub other-kind : (get_or w (3 * i) 0 ≡ x.tag → ⊥) → SwappedAt m i cs w false
    other-kind d = missed (λ is. d (kind_at cs [] w-is i inside ∙ ap kind_word is ∙ sym x-is.0))

    -- a the i-th's
    module _ (a : Words) (read : a ≡ words_at w (3 * i)) {t : Bool} (told : t ≡ not (same a x)) where
      a-is : Equal a (record { tag = kind_word c; payload = payload_word c; offset = offset_word c })
      a-is = (ap (λ (r : Words). r.tag) read ∙ kind_at cs [] w-is i inside, ap (λ (r : Words). r.payload) read ∙ payload-at cs [] w-is i inside, ap (λ (r : Words). r.offset) read ∙ offset_at cs [] w-is i inside)

      alike : c ≡ ref m.0 → same a x ≡ true
      alike is = equal-same a x (a-is.0 ∙ ap kind_word is ∙ sym x-is.0, a-is.1 ∙ ap payload_word is ∙ sym x-is.1, a-is.2 ∙ ap offset_word is ∙ sym x-is.2)

      pub other-words : t ≡ true → SwappedAt m i cs w false
      other-words q = missed (λ is. false≢true (sym (told ∙ ap not (alike is)) ∙ q))

      -- y is the words of what it becomes, ys what they are written into
      pub swap-hit : t ≡ false → (y : Words) {n : Cell} → n ≡ ref (moved_to m) → (y.tag ∷ y.payload ∷ y.offset ∷ []) ≡ cell_words (n ∷ []) → (z : List ℕ) → z ≡ y.tag ∷ y.payload ∷ y.offset ∷ [] → {ys : List ℕ} → ys ≡ paste w (3 * i) z (length z) → SwappedAt m i cs ys true
      unfolding holds
      swap-hit q y {n} now put z zs {ys} e =
          let (d, f, g) = same-equal a x (yes (same a x) (sym told ∙ q)) in
          let is : c ≡ ref m.0 = is-ref m.0 c (valid-at cs i inside (whole-valid w u)) (sym a-is.0 ∙ d ∙ x-is.0) (sym a-is.1 ∙ f ∙ x-is.1) (sym a-is.2 ∙ g ∙ x-is.2) in
          let held : holds m.0 c ≡ true = rw is (same_ptr-refl m.0) in
          let words : z ≡ cell_words (ref (moved_to m) ∷ []) = zs ∙ put ∙ ap (λ (k : Cell). cell_words (k ∷ [])) now in
          let three : length z ≡ 3 = ap length zs in
          let stored : ys ≡ cell_words (set cs i (ref (moved_to m))) =
          e
          ∙ (λ j. paste (w-is j) (3 * i) (words j) (three j))
          ∙ cell-pasted cs [] i (ref (moved_to m)) inside
          ∙ append-nil (cell_words (set cs i (ref (moved_to m)))) in
          (rw (swap-yes m c held) stored, sym held)
        where
          yes : (b : Bool) → not b ≡ false → b ≡ true
          yes true h = refl
          yes false h = absurd (false≢true (sym h))

-- `swap_cells`: i cells are changed

-- the first i changed
unfoldable pub front : {A : Type 0} → (A → A) → ℕ → List A → List A
front f i cs = map f (take i cs) ++ drop i cs

module _ {A : Type 0} (f : A → A) (d : A) where
  front-get : (ds : List A) (i : ℕ) → get_or (front f i ds) i d ≡ get_or ds i d
  unfolding front
  front-get ds zero = refl
  front-get [] (suc i) = refl
  front-get (c ∷ es) (suc i) = front-get es i

  front-next : (ds : List A) (i : ℕ) → i < length ds → set (front f i ds) i (f (get_or ds i d)) ≡ front f (suc i) ds
  unfolding front
  front-next [] i h = absurd (not-suc-le-zero h)
  front-next (c ∷ es) zero h = refl
  front-next (c ∷ es) (suc i) h = ap (λ (r : List A). f c ∷ r) (front-next es i (le_of_suc-le-suc h))

front-valid : (m : Ptr × ℕ) (cs : List Cell) (i : ℕ) → all_valid cs ≡ true → all_valid (front (swap_cell m) i cs) ≡ true
unfolding front
front-valid m cs i v =
    let all = all_valid_lem cs v in
    valid-all _ (λ c k. ⊎_elim (valid-swap m (take i cs) (λ d j. all d (take_in i cs d j)) c) (λ j. all c (drop-in i cs c j)) (Memᴰ.append_cases (map (swap_cell m) (take i cs)) k))

hits_next : (f : Cell → Bool) (cs : List Cell) (i : ℕ) → i < length cs → length (keep_if f (take (suc i) cs)) ≡ length (keep_if f (take i cs)) + bit (f (get_or cs i blank))
unfolding keep_if
hits_next f [] i h = absurd (not-suc-le-zero h)
hits_next f (c ∷ cs) zero h = go (f c)
  where
    go : (t : Bool) → length (cons_if t c []) ≡ 0 + bit t
    go true = refl
    go false = refl
hits_next f (c ∷ cs) (suc i) h = go (f c) (hits_next f cs i (le_of_suc-le-suc h))
  where
    go : (t : Bool) → length (keep_if f (take (suc i) cs)) ≡ length (keep_if f (take i cs)) + bit (f (get_or cs i blank))
        → length (cons_if t c (keep_if f (take (suc i) cs))) ≡ length (cons_if t c (keep_if f (take i cs))) + bit (f (get_or cs i blank))
    go true e = omega arith
    go false e = e

pub record Swapping (m : Ptr × ℕ) (w₀ w : List ℕ) (hits i : ℕ) : Type 0 where
  pub within : i ≤ length w₀ / 3
  pub few : hits ≤ i
  pub len : length w ≡ length (cells_in w₀) * 3
  pub size : length (cells_in w₀) ≡ length w₀ / 3
  pub good : all_valid (cells_in w₀) ≡ true
  pub is : w ≡ cell_words (front (swap_cell m) i (cells_in w₀))
  pub count : hits ≡ length (keep_if (holds m.0) (take i (cells_in w₀)))

pub swap-begin : (m : Ptr × ℕ) (w : List ℕ) → whole_cells w ≡ true → Swapping m w w 0 0
unfolding front keep_if
swap-begin m w u = record { within = omega arith; few = omega arith; len = sym (whole_length w u); size = in-length w; good = whole-valid w u; is = sym (whole_back w u); count = refl }

module _ {m : Ptr × ℕ} {w₀ w : List ℕ} {hits i : ℕ} (x : Swapping m w₀ w hits i) where
  abbrev before : List Cell
  before = cells_in w₀

  -- the words are cells still

  still-valid : all_valid (front (swap_cell m) i before) ≡ true
  still-valid = front-valid m before i x.good

  pub swap-whole : whole_cells w ≡ true
  swap-whole = rw x.is (whole_words (front (swap_cell m) i before) still-valid)

  cells_are : cells_in w ≡ front (swap_cell m) i before
  cells_are = rw x.is (words-in (front (swap_cell m) i before) still-valid)

  pub swap-room : i < length w₀ / 3 → i * 3 + 2 < length w
  swap-room h = omega (arith, x.len, x.size)

  swap-turn : {w' : List ℕ} (r : Bool) {hits' : ℕ} → i < length w₀ / 3 → length w' ≡ length w → SwappedAt m i (cells_in w) w' r → hits' ≡ hits + bit r → Swapping m w₀ w' hits' (i + 1)
  swap-turn {w'} r {hits'} h l s e =
      let below : i < length before = omega (arith, x.size) in
      let (p, c) : SwappedAt m i (front (swap_cell m) i before) w' r = rw cells_are at s in
      let cell = front-get (swap_cell m) blank before i in
      record {
        within = omega arith;
        few = go r x.few e;
        len = l ∙ x.len;
        size = x.size;
        good = x.good;
        is = rw add-one (p ∙ ap cell_words (ap (λ (d : Cell). set (front (swap_cell m) i before) i (swap_cell m d)) cell ∙ front-next (swap_cell m) blank before i below));
        count = rw add-one (e ∙ (λ j. x.count j + bit ((c ∙ ap (holds m.0) cell) j)) ∙ sym (hits_next (holds m.0) before i below));
      }
    where
      go : (t : Bool) {a b : ℕ} → a ≤ i → b ≡ a + bit t → b ≤ i + 1
      go true h e = omega arith
      go false h e = omega arith

  pub swap-found : {w' : List ℕ} {r : Bool} {hits' : ℕ} → i < length w₀ / 3 → length w' ≡ length w → SwappedAt m i (cells_in w) w' r → r ≡ true → hits' ≡ hits + 1 → Swapping m w₀ w' hits' (i + 1)
  swap-found {r = r} h l s t e = swap-turn r h l s (rw t e)

  pub swap-missed : {w' : List ℕ} {r : Bool} {hits' : ℕ} → i < length w₀ / 3 → length w' ≡ length w → SwappedAt m i (cells_in w) w' r → r ≡ false → hits' ≡ hits → Swapping m w₀ w' hits' (i + 1)
  swap-missed {r = r} h l s t e = swap-turn r h l s (rw t (omega arith))

  pub swap-done : length w₀ / 3 ≤ i → (w ≡ cell_words (map (swap_cell m) before)) × (hits ≡ length (keep_if (holds m.0) before))
  unfolding front
  swap-done h =
      let q : i ≡ length before = omega (arith, x.within, x.size) in
      let taken : take i before ≡ before = rw q (take-length before) in (
        x.is ∙ ap cell_words (rw (taken, q, drop-length before) (append-nil (map (swap_cell m) before))),
        x.count ∙ ap (λ (l : List Cell). length (keep_if (holds m.0) l)) taken,
      )

pub ruleset swaps = (swap-whole, swap-room)
