-- A mask matches a base when every one bit of the mask is a one in the base; masks are the positions with a count above zero.
use mathlib.Core.Path.{◌≡◌, refl, sym, ap, ◌∙◌}
use mathlib.Core.Bool.{Bool, true, false, ◌||◌, true≢false, or-true}
use mathlib.Core.Logic.{◌↔◌, ⊎_elim}
use mathlib.Core.List.Memᴰ
use mathlib.Core.List.{List, [], ◌∷◌, Memᴰ}
use Prim.Native.Nat.{ℕ, zero, suc, ◌+◌, ◌*◌, ◌%◌, ◌/◌, ◌^◌, ◌≤◌, ◌<◌, min}
use native.Mathlib.Nat.{zero-add, not-suc-le-zero, mod-lt, div-add-mod', div-div-eq-div-mul, pow-succ', div-one}
use native.Mathlib.Omega.{arith}
use lib.Bits.{bit_and, and_step, and_shr, and_mod, and_zero_l, and_block, and_self}
use lib.ListN.{get_or, replicate}
use Rattle.model.specs.Barrier.{Barrier, absent, present, cache, counts, count, masks, matches_mask, matches}
use Rattle.model.specs.Demand.{OnesIn, Remembered}
use borrow.Author.Tests.{eqb-true}
use Rattle.theorems.proofs.Lists.{eqb_same, places-in, places-out}

-- bits

halved : (m i : ℕ) → m / 2 / 2 ^ i ≡ m / 2 ^ suc i
halved m i = div-div-eq-div-mul m 2 (2 ^ i) ∙ ap (λ (x : ℕ). m / x) (sym (pow-succ' 2 i))

ones-halved : (m b : ℕ) → OnesIn m b → OnesIn (m / 2) (b / 2)
ones-halved m b o i e = rw halved (o (suc i) (rw halved at e))

-- at most k halvings lead to 0
ones_and : (k m b : ℕ) → m ≤ k → OnesIn m b → bit_and m b ≡ m
ones_and zero m b h o = let e : m ≡ 0 = omega arith in rw e (and_zero_l b)
ones_and (suc k) m b h o =
    let ih = ones_and k (m / 2) (b / 2) (omega arith) (ones-halved m b o) in
    and_step m b ∙ (rw (ih, low (m % 2) refl (mod-lt m (omega arith))) (div-add-mod' m 2))
  where
    low : (r : ℕ) → m % 2 ≡ r → r < 2 → min (m % 2) (b % 2) ≡ m % 2
    low zero e h = omega arith
    low (suc zero) e h = let f : b % 2 ≡ 1 = rw div-one at (o 0 (rw div-one e)) in omega arith
    low (suc (suc r)) e h = absurd (omega arith)

one-and : (x : ℕ) → bit_and 1 (x % 2) ≡ 1 → x % 2 ≡ 1
one-and x = go (x % 2) (mod-lt x (omega arith))
  where
    go : (r : ℕ) → r < 2 → bit_and 1 r ≡ 1 → r ≡ 1
    go zero h e = absurd (omega arith)
    go (suc zero) h e = refl
    go (suc (suc r)) h e = absurd (omega arith)

and-ones : (m b : ℕ) → bit_and m b ≡ m → OnesIn m b
and-ones m b e i h =
    let both : bit_and (m / 2 ^ i) (b / 2 ^ i) % 2 ≡ bit_and (m / 2 ^ i % 2) (b / 2 ^ i % 2) = and_mod (m / 2 ^ i) (b / 2 ^ i) 1 in
    let same : bit_and (m / 2 ^ i) (b / 2 ^ i) ≡ m / 2 ^ i = sym (and_shr m b i) ∙ ap (λ (x : ℕ). x / 2 ^ i) e in
    one-and (b / 2 ^ i) (sym (ap (λ (x : ℕ). bit_and x (b / 2 ^ i % 2)) h) ∙ sym both ∙ ap (λ (x : ℕ). x % 2) same ∙ h)

pub mask-ones : (m b : ℕ) → matches_mask m b ≡ true → OnesIn m b
unfolding matches_mask
mask-ones m b e = and-ones m b (eqb-true (bit_and m b) m e)

pub ones-mask : (m b : ℕ) → OnesIn m b → matches_mask m b ≡ true
unfolding matches_mask
ones-mask m b o = rw (ones_and m m b (omega arith) o) (eqb_same m)

-- a base matches the mask of its own low byte
pub low_mask : (b : ℕ) → OnesIn (b % 256) b
low_mask b =
    let r : ℕ = b % 256 in
    let h : r < 256 = mod-lt b (omega arith) in
    let e : bit_and (0 * 256 + r) (b / 256 * 256 + r) ≡ bit_and 0 (b / 256) * 256 + bit_and r r = and_block 8 0 (b / 256) r r h h in
    let u : 0 * 256 + r ≡ r = omega arith in
    let v : b / 256 * 256 + r ≡ b = div-add-mod' b 256 in
    and-ones r b (ap (bit_and r) (sym v) ∙ ap (λ (x : ℕ). bit_and x (b / 256 * 256 + r)) (sym u) ∙ e ∙ (rw and_self (omega arith)))

-- masks

zero-at : (n i : ℕ) → ◌≡◌ {A = ℕ} (get_or (replicate n 0) i 0) 0
zero-at zero i = refl
zero-at (suc n) zero = refl
zero-at (suc n) (suc i) = zero-at n i

mask-in : (b : Barrier) (k : ℕ) → 0 < count b k → Memᴰ k (masks b)
unfolding masks count counts
mask-in absent k h = absurd (not-suc-le-zero (rw (zero-at cache k) at h))
mask-in (present cs) k h = rw zero-add at (places-in cs 0 k h)

mask-out : (b : Barrier) (k : ℕ) → Memᴰ k (masks b) → 0 < count b k
unfolding masks count counts
mask-out absent k m = absurd (Memᴰ.not-nil m)
mask-out (present cs) k m = let r = places-out cs 0 k m in let e : k ≡ r.0 = omega (arith, r.1) in rw e r.2

matches-in : {m : ℕ} (ms : List ℕ) (b : ℕ) → Memᴰ m ms → matches_mask m b ≡ true → matches ms b ≡ true
unfolding matches
matches-in [] b k e = absurd (Memᴰ.not-nil k)
matches-in {m} (n ∷ ms) b k e = ⊎_elim here (λ j. rw (matches-in ms b j e, or-true)) (Memᴰ.cases_cons k)
  where
    here : m ≡ n → (matches_mask n b || matches ms b) ≡ true
    here q = rw (← q, e)

matches-out : (ms : List ℕ) (b : ℕ) → matches ms b ≡ true → (m : ℕ) × Memᴰ m ms × (matches_mask m b ≡ true)
unfolding matches
matches-out [] b e = absurd (true≢false (sym e))
matches-out (m ∷ ms) b e = go (matches_mask m b) refl (λ f. let r = matches-out ms b f in (r.0, Memᴰ.tail r.1, r.2)) e
  where
    Found : Type 0
    Found = (x : ℕ) × Memᴰ x (m ∷ ms) × (matches_mask x b ≡ true)

    go : (t : Bool) → matches_mask m b ≡ t → (matches ms b ≡ true → Found) → (t || matches ms b) ≡ true → Found
    go true q later f = (m, Memᴰ.head refl, q)
    go false q later f = later f

-- the masks of a barrier match exactly what it remembers
pub remembered : (w : Barrier) (b : ℕ) → (matches (masks w) b ≡ true) ↔ Remembered w b
remembered w b = (
  λ e. let r = matches-out (masks w) b e in (r.0, mask-out w r.0 r.1, mask-ones r.0 b r.2),
  λ r. matches-in (masks w) b (mask-in w r.0 r.1) (ones-mask r.0 b r.2),
)
