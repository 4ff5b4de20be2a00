-- The entries of a list in its words.
use mathlib.Core.Bool.{false, and-true, and-false}
use lib.Dec.{eqb}
use borrow.Author.Tests.{eq-eqb, ne_eqb}
use mathlib.Core.Path.{◌≡◌, refl, ap, ◌∙◌}
use mathlib.Core.List.{List, [], ◌∷◌, ◌++◌}
use mathlib.Core.Option.{some}
use Prim.Native.Nat.{ℕ, zero, suc, ◌+◌, ◌*◌, ◌-◌, ◌≤◌, ◌<◌}
use native.Mathlib.Numerals.{add-one}
use native.Mathlib.Nat.{zero-add, add-zero, suc-add, add-suc, le_of_suc-le-suc, not-suc-le-zero}
use native.Mathlib.Omega.{arith}
use lib.ListN.{length, get_elem?, set, length-set, get_or}
use lib.Seq.{get_or-set_same, get_or-set_other}
use Rattle.model.specs.Records.{Ptr, same_ptr}
use Rattle.trace.specs.Words.{tab, ptr_at, members, stored, pointer}

module _ {A : Type 0} (f : ℕ → A) where
  pub length-tab : (i n : ℕ) → length (tab f i n) ≡ n
  unfolding tab
  length-tab i zero = refl
  length-tab i (suc n) = ap suc (length-tab (suc i) n)

  -- one turn of a loop that goes up to m
  pub tab-cons : (i m : ℕ) → i < m → tab f i (m - i) ≡ f i ∷ tab f (i + 1) (m - (i + 1))
  unfolding tab
  tab-cons i m h = let e : m - i ≡ suc (m - (i + 1)) = omega arith in rw (e, add-one)

  pub tab-none : (i m : ℕ) → m ≤ i → tab f i (m - i) ≡ []
  unfolding tab
  tab-none i m h = let e : m - i ≡ 0 = omega arith in rw e

  pub tab-snoc : (i n : ℕ) → tab f i (suc n) ≡ tab f i n ++ f (i + n) ∷ []
  unfolding tab
  tab-snoc i zero = rw add-zero
  tab-snoc i (suc n) = rw (tab-snoc (suc i) n, add-suc, suc-add)

  tab-elem : (i n k : ℕ) → k < n → get_elem? (tab f i n) k ≡ some (f (i + k))
  unfolding tab
  tab-elem i zero k h = absurd (not-suc-le-zero h)
  tab-elem i (suc n) zero h = rw add-zero
  tab-elem i (suc n) (suc k) h = rw (tab-elem (suc i) n k (le_of_suc-le-suc h), add-suc, suc-add)

  pub tab-ext : (g : ℕ → A) (i n : ℕ) → ((k : ℕ) → k < i + n → f k ≡ g k) → tab f i n ≡ tab g i n
  unfolding tab
  tab-ext g i zero h = refl
  tab-ext g i (suc n) h = λ j. h i (omega arith) j ∷ tab-ext g (suc i) n (λ k b. h k (omega arith)) j

pub length-members : (n : ℕ) (w : List ℕ) → length (members n w) ≡ n
unfolding members
length-members n w = length-tab (ptr_at w) 0 n

pub member-at : (n : ℕ) (w : List ℕ) (p : ℕ) → p < n → get_elem? (members n w) p ≡ some (ptr_at w p)
unfolding members
member-at n w p h = tab-elem (ptr_at w) 0 n p h ∙ ap (λ (k : ℕ). some (ptr_at w k)) (zero-add p)

-- an entry's test, word by word
module _ (w : List ℕ) (i h b o : ℕ) where
  pub base-differs : (b ≡ get_or w (3 * i + 1) 0 → ⊥) → false ≡ same_ptr (pointer h b o) (ptr_at w i)
  unfolding same_ptr ptr_at
  base-differs p = rw (ne_eqb b (get_or w (3 * i + 1) 0) p, and-false)

  pub offset-differs : (o ≡ get_or w (3 * i + 2) 0 → ⊥) → false ≡ same_ptr (pointer h b o) (ptr_at w i)
  unfolding same_ptr ptr_at
  offset-differs p = rw (ne_eqb o (get_or w (3 * i + 2) 0) p, and-false)

  pub heap-decides : b ≡ get_or w (3 * i + 1) 0 → o ≡ get_or w (3 * i + 2) 0 → eqb h (get_or w (3 * i) 0) ≡ same_ptr (pointer h b o) (ptr_at w i)
  unfolding same_ptr ptr_at
  heap-decides p q = rw (eq-eqb b (get_or w (3 * i + 1) 0) p, eq-eqb o (get_or w (3 * i + 2) 0) q) (simp and-true)

-- one more entry is stored

entry_kept : (w : List ℕ) (k j v : ℕ) → 3 * k + 2 < j → ptr_at (set w j v) k ≡ ptr_at w k
unfolding ptr_at
entry_kept w k j v h =
    rw (get_or-set_other w j (3 * k) v 0 (λ e. omega arith), get_or-set_other w j (3 * k + 1) v 0 (λ e. omega arith), get_or-set_other w j (3 * k + 2) v 0 (λ e. omega arith))

module _ (w : List ℕ) (n : ℕ) (p : Ptr) where
  stored_other : (k : ℕ) → k < n → ptr_at (stored w n p) k ≡ ptr_at w k
  stored_other k h =
      entry_kept (set (set w (3 * n) p.heap) (3 * n + 1) p.base) k (3 * n + 2) p.off (omega arith)
      ∙ entry_kept (set w (3 * n) p.heap) k (3 * n + 1) p.base (omega arith)
      ∙ entry_kept w k (3 * n) p.heap (omega arith)

  stored_same : 3 * n + 2 < length w → ptr_at (stored w n p) n ≡ p
  unfolding ptr_at
  stored_same h =
      let w₁ : List ℕ = set w (3 * n) p.heap in
      let w₂ : List ℕ = set w₁ (3 * n + 1) p.base in
      let l₁ : length w₁ ≡ length w = length-set w (3 * n) p.heap in
      let l₂ : length w₂ ≡ length w₁ = length-set w₁ (3 * n + 1) p.base in
      rw (
        get_or-set_same w₂ (3 * n + 2) p.off 0 (omega arith),
        get_or-set_other w₂ (3 * n + 2) (3 * n + 1) p.off 0 (λ e. omega arith),
        get_or-set_other w₂ (3 * n + 2) (3 * n) p.off 0 (λ e. omega arith),
        get_or-set_same w₁ (3 * n + 1) p.base 0 (omega arith),
        get_or-set_other w₁ (3 * n + 1) (3 * n) p.base 0 (λ e. omega arith),
        get_or-set_same w (3 * n) p.heap 0 (omega arith),
      )

  pub members-stored : 3 * n + 2 < length w → members (n + 1) (stored w n p) ≡ members n w ++ p ∷ []
  unfolding members
  members-stored h =
      ap (tab (ptr_at (stored w n p)) 0) (add-one n)
      ∙ tab-snoc (ptr_at (stored w n p)) 0 n
      ∙ (λ j. tab-ext (ptr_at (stored w n p)) (ptr_at w) 0 n (λ k b. stored_other k (omega arith)) j ++ (ap (ptr_at (stored w n p)) (zero-add n) ∙ stored_same h) j ∷ [])
