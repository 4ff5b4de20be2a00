-- Where the cells of a changed list come from; and that they stay valid.
use mathlib.Core.Path.{◌≡◌, refl, sym, ap, ◌∙◌}
use mathlib.Core.Bool.{Bool, true, false}
use mathlib.Core.Logic.{◌⊎◌, ◌≢◌, inl, inr, ⊎_elim, ⊎_map}
use mathlib.Core.List.Memᴰ
use mathlib.Core.List.{List, [], ◌∷◌, ◌++◌, map, map-append, Memᴰ}
use Prim.Native.Nat.{ℕ, zero, suc, ◌+◌, ◌<◌, zero-le, suc-le-suc}
use native.Mathlib.Nat.{not-suc-le-zero, le_of_suc-le-suc}
use native.Mathlib.Omega.{arith}
use lib.Dec.{leb}
use lib.ListN.{length, get_or, take, drop, set, replicate, length-take, length-drop, get_or-eq_default}
use lib.Seq.{get_or-take, get_or-drop}
use Rattle.model.specs.Lists.{only_if, flat}
use Rattle.model.specs.Records.{Ptr, Cell, ref, valid_plain, valid, all_valid, whole, blank}
use Rattle.model.specs.Elder.{keeps, keep}
use Rattle.model.specs.Collector.{moved_to, holds, swap_cell}
use Rattle.theorems.proofs.Reach.{Sub}
use borrow.Author.Tests.{leb-true, leb-false}
use Rattle.theorems.proofs.Lists.{and_left, and_right}

pub keep-from : (ps : List Ptr) (i : ℕ) (ss : List (List Cell)) → Sub (flat (keep ps i ss)) (flat ss)
unfolding keep flat
keep-from ps i [] c m = m
keep-from ps i (s ∷ ss) c m = go (keeps ps i) (keep-from ps (suc i) ss c) m
  where
    go : (t : Bool) → (Memᴰ c (flat (keep ps (suc i) ss)) → Memᴰ c (flat ss)) → Memᴰ c (only_if t s ++ flat (keep ps (suc i) ss)) → Memᴰ c (s ++ flat ss)
    go true f k = ⊎_elim (Memᴰ.append_left (flat ss)) (λ n. Memᴰ.append_right s (f n)) (Memᴰ.append_cases s k)
    go false f k = Memᴰ.append_right s (f k)

pub set-from : (ss : List (List Cell)) (i : ℕ) (t : List Cell) {c : Cell} → Memᴰ c (flat (set ss i t)) → Memᴰ c (flat ss) ⊎ Memᴰ c t
unfolding flat
set-from [] i t m = inl m
set-from (s ∷ ss) zero t m = ⊎_elim (λ k. inr k) (λ k. inl (Memᴰ.append_right s k)) (Memᴰ.append_cases t m)
set-from (s ∷ ss) (suc i) t m = ⊎_elim (λ k. inl (Memᴰ.append_left (flat ss) k)) (λ k. ⊎_map (Memᴰ.append_right s) (λ x. x) (set-from ss i t k)) (Memᴰ.append_cases s m)

-- a member and its place

module _ {A : Type 0} where
  pub mem-at : (d : A) {x : A} {l : List A} → Memᴰ x l → (i : ℕ) × (i < length l) × (get_or l i d ≡ x)
  mem-at d (Memᴰ.head e) = (zero, suc-le-suc zero-le, sym e)
  mem-at d (Memᴰ.tail m) = let r = mem-at d m in (suc r.0, suc-le-suc r.1, r.2)

  pub at_mem : (l : List A) (i : ℕ) (d : A) {x : A} → i < length l → get_or l i d ≡ x → Memᴰ x l
  at_mem [] i d h e = absurd (not-suc-le-zero h)
  at_mem (a ∷ l) zero d h e = Memᴰ.head (sym e)
  at_mem (a ∷ l) (suc i) d h e = Memᴰ.tail (at_mem l i d (le_of_suc-le-suc h) e)

  -- n elements from place b on
  pub part_out : (n b : ℕ) (l : List A) (d : A) {x : A} → Memᴰ x (take n (drop b l)) → (i : ℕ) × (i < n) × (get_or l (b + i) d ≡ x)
  part_out n b l d m =
      let r = mem-at d m in
      let h : r.0 < n = omega (arith, r.1, length-take n (drop b l)) in
      (r.0, h, sym (get_or-take n (drop b l) r.0 d h ∙ get_or-drop b l r.0 d) ∙ r.2)

  pub part_in : (n b : ℕ) (l : List A) (d : A) {x : A} (i : ℕ) → i < n → get_or l (b + i) d ≡ x → d ≢ x → Memᴰ x (take n (drop b l))
  part_in n b l d {x} i h e n' = go (leb (length l) (b + i)) refl
    where
      go : (t : Bool) → leb (length l) (b + i) ≡ t → Memᴰ x (take n (drop b l))
      go true q = absurd (n' (sym (get_or-eq_default l d (leb-true (length l) (b + i) q)) ∙ e))
      go false q =
          let k : b + i < length l = leb-false (length l) (b + i) q in
          at_mem (take n (drop b l)) i d (simp (length-take, length-drop) (omega arith)) (get_or-take n (drop b l) i d h ∙ get_or-drop b l i d ∙ e)

module _ {A B : Type 0} where
  pub map-out : (g : A → B) (l : List A) {c : B} → Memᴰ c (map g l) → (a : A) × Memᴰ a l × (c ≡ g a)
  map-out g [] m = absurd (Memᴰ.not-nil m)
  map-out g (a ∷ l) m = ⊎_elim (λ e. (a, Memᴰ.head refl, e)) (λ n. let r = map-out g l n in (r.0, Memᴰ.tail r.1, r.2)) (Memᴰ.cases_cons m)

  pub map-in : (f : A → B) {x : A} {l : List A} → Memᴰ x l → Memᴰ (f x) (map f l)
  map-in f (Memᴰ.head e) = Memᴰ.head (ap f e)
  map-in f (Memᴰ.tail m) = Memᴰ.tail (map-in f m)

pub flat_map : (g : Cell → Cell) (ss : List (List Cell)) → flat (map (map g) ss) ≡ map g (flat ss)
unfolding flat
flat_map g [] = refl
flat_map g (s ∷ ss) = ap (λ (t : List Cell). map g s ++ t) (flat_map g ss) ∙ sym (map-append g s (flat ss))

pub cell-set-from : (l : List Cell) (i : ℕ) (t : Cell) {c : Cell} → Memᴰ c (set l i t) → Memᴰ c l ⊎ (c ≡ t)
cell-set-from [] i t m = inl m
cell-set-from (a ∷ l) zero t m = ⊎_elim (λ e. inr e) (λ k. inl (Memᴰ.tail k)) (Memᴰ.cases_cons m)
cell-set-from (a ∷ l) (suc i) t m = ⊎_elim (λ e. inl (Memᴰ.head e)) (λ k. ⊎_map Memᴰ.tail (λ x. x) (cell-set-from l i t k)) (Memᴰ.cases_cons m)

-- each cell is valid

abbrev pub Valid : List Cell → Type 0
Valid l = (c : Cell) → Memᴰ c l → valid c ≡ true

pub valid-all : (l : List Cell) → Valid l → all_valid l ≡ true
unfolding all_valid
valid-all [] v = refl
valid-all (c ∷ l) v = rw (v c (Memᴰ.head refl)) (valid-all l (λ d m. v d (Memᴰ.tail m)))

pub all_valid_lem : (l : List Cell) → all_valid l ≡ true → Valid l
unfolding all_valid
all_valid_lem [] e c m = absurd (Memᴰ.not-nil m)
all_valid_lem (d ∷ l) e c m = ⊎_elim (λ q. ap valid q ∙ and_left (valid d) (all_valid l) e) (λ n. all_valid_lem l (and_right (valid d) (all_valid l) e) c n) (Memᴰ.cases_cons m)

pub at-valid : (l : List Cell) (i : ℕ) → all_valid l ≡ true → valid (get_or l i blank) ≡ true
unfolding all_valid valid valid_plain blank
at-valid [] i e = refl
at-valid (c ∷ l) zero e = and_left (valid c) (all_valid l) e
at-valid (c ∷ l) (suc i) e = at-valid l i (and_right (valid c) (all_valid l) e)

pub valid-set : (l : List Cell) (i : ℕ) (c : Cell) → all_valid l ≡ true → valid c ≡ true → all_valid (set l i c) ≡ true
valid-set l i c v t = valid-all (set l i c) (λ x k. ⊎_elim (all_valid_lem l v x) (λ e. ap valid e ∙ t) (cell-set-from l i c k))

pub valid-blank : (n : ℕ) → Valid (replicate n blank)
unfolding valid valid_plain blank
valid-blank zero c m = absurd (Memᴰ.not-nil m)
valid-blank (suc n) c m = ⊎_elim (λ e. ap valid e) (λ k. valid-blank n c k) (Memᴰ.cases_cons m)

pub valid-swap : (m : Ptr × ℕ) (l : List Cell) → Valid l → Valid (map (swap_cell m) l)
unfolding swap_cell valid whole moved_to
valid-swap m l v c k = let r = map-out (swap_cell m) l k in ap valid r.2 ∙ go r.0 (v r.0 r.1) (holds m.0 r.0)
  where
    go : (a : Cell) → valid a ≡ true → (t : Bool) → valid (elim t [ true ↦ ref (moved_to m) | false ↦ a ]) ≡ true
    go a h true = refl
    go a h false = h
