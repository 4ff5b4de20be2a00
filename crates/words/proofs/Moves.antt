-- The loops that copy and move words, which paste a slice, or a part of the slice itself.
use Prim.Native.Nat.{ℕ, zero, suc, ◌+◌, ◌-◌, ◌≤◌, ◌<◌}
use mathlib.Core.Path.{◌≡◌, refl, sym, ap, ◌∙◌}
use mathlib.Core.List.{List, [], ◌∷◌, ◌++◌}
use native.Mathlib.Numerals.{add-one}
use native.Mathlib.Nat.{le_antisymm, not-suc-le-zero, le_of_suc-le-suc, sub_self}
use native.Mathlib.Omega.{arith}
use lib.ListN.{length, get_or, set, take, drop, length-set, length-append, length-drop}
use lib.Seq.{paste, paste-zero, paste-suc, drop-cons, get_or-drop, get_or-take, take-take, take-append-le, length-take-le}
use Rattle.words.proofs.Laws.{drop_past}

-- past what was pasted, and before it, no word changes
module _ (d : List ℕ) (at : ℕ) (s : List ℕ) (n : ℕ) (h : at ≤ length d) where
  get_d_past : (k : ℕ) → n ≤ length s → at + n ≤ k → get_or (paste d at s n) k 0 ≡ get_or d k 0
  get_d_past k j l =
      let e : k + 0 ≡ k = omega arith in
      ap (λ (i : ℕ). get_or (paste d at s n) i 0) (sym e)
      ∙ sym (get_or-drop k (paste d at s n) 0 0)
      ∙ ap (λ (r : List ℕ). get_or r 0 0) (drop_past d at s n h k j l)
      ∙ get_or-drop k d 0 0
      ∙ ap (λ (i : ℕ). get_or d i 0) e

  take-before : (k : ℕ) → k ≤ at → take k (paste d at s n) ≡ take k d
  take-before k l =
      let p : length (take at d) ≡ at = length-take-le at d h in
      take-append-le k (take at d ++ take n s) (drop (at + n) d) (omega (arith, length-append (take at d) (take n s)))
      ∙ take-append-le k (take at d) (take n s) (omega arith)
      ∙ take-take k at d l

  get_d-before : (k : ℕ) → k < at → get_or (paste d at s n) k 0 ≡ get_or d k 0
  get_d-before k l =
      sym (get_or-take at (paste d at s n) k 0 l) ∙ ap (λ (r : List ℕ). get_or r k 0) (take-before at (omega arith)) ∙ get_or-take at d k 0 l

-- one more word in front of what was pasted
paste-front : (d : List ℕ) (at : ℕ) (s : List ℕ) (n x : ℕ) → at < length d → set (paste d (suc at) s n) at x ≡ paste d at (x ∷ s) (suc n)
paste-front [] at s n x h = absurd (not-suc-le-zero h)
paste-front (y ∷ d) zero s n x h = let e : suc zero + n ≡ zero + suc n = omega arith in ap (λ (k : ℕ). x ∷ (take n s ++ drop k (y ∷ d))) e
paste-front (y ∷ d) (suc at) s n x h =
    let e : suc (suc at) + n ≡ suc (suc at + n) = omega arith in
    let f : suc at + suc n ≡ suc (at + suc n) = omega arith in
    ap (λ (k : ℕ). y ∷ set (take (suc at) d ++ take n s ++ drop k (y ∷ d)) at x) e
    ∙ ap (λ (r : List ℕ). y ∷ r) (paste-front d at s n x (le_of_suc-le-suc h))
    ∙ ap (λ (k : ℕ). y ∷ (take at d ++ take (suc n) (x ∷ s) ++ drop k (y ∷ d))) (sym f)

-- a loop that pastes m words of s into d₀ from at on, and has pasted i

pub record Pasting (d₀ : List ℕ) (at : ℕ) (s : List ℕ) (m : ℕ) (d : List ℕ) (i : ℕ) : Type 0 where
  pub within : i ≤ m
  pub in_src : m ≤ length s
  pub in_dst : at + m ≤ length d₀
  pub len : length d ≡ length d₀
  pub is : d ≡ paste d₀ at s i

paste-begin : (d₀ : List ℕ) (at : ℕ) (s : List ℕ) (m : ℕ) → m ≤ length s → at + m ≤ length d₀ → Pasting d₀ at s m d₀ 0
paste-begin d₀ at s m h k = record { within = omega arith; in_src = h; in_dst = k; len = refl; is = paste-zero d₀ at s }

module _ {d₀ : List ℕ} {at : ℕ} {s : List ℕ} {m : ℕ} {d : List ℕ} {i : ℕ} (v : Pasting d₀ at s m d i) where
  paste-turn : (x : ℕ) → i < m → x ≡ get_or s i 0 → Pasting d₀ at s m (set d (at + i) x) (i + 1)
  paste-turn x h e = record {
    within = omega arith;
    in_src = v.in_src;
    in_dst = v.in_dst;
    len = length-set d (at + i) x ∙ v.len;
    is = rw (e, v.is, add-one) (paste-suc d₀ at s i 0 (omega (arith, v.in_dst)) (omega (arith, v.in_src)));
  }

  pub paste-done : m ≤ i → d ≡ paste d₀ at s m
  paste-done h = v.is ∙ ap (paste d₀ at s) (le_antisymm v.within h)

  -- the word that is read where the source lies further right in the slice itself
  paste-ahead : (src : ℕ) → s ≡ drop src d₀ → at ≤ src → get_or d (src + i) 0 ≡ get_or s i 0
  paste-ahead src e h =
      ap (λ (r : List ℕ). get_or r (src + i) 0) v.is
      ∙ get_d_past d₀ at s i (omega (arith, v.in_dst)) (src + i) (omega (arith, v.within, v.in_src)) (omega arith)
      ∙ sym (get_or-drop src d₀ i 0)
      ∙ ap (λ (r : List ℕ). get_or r i 0) (sym e)

-- another slice's words are pasted

pub copy_begin : (d₀ : List ℕ) (at : ℕ) (s : List ℕ) → at + length s ≤ length d₀ → Pasting d₀ at s (length s) d₀ 0
copy_begin d₀ at s k = paste-begin d₀ at s (length s) (omega arith) k

pub copy-turn : {d₀ : List ℕ} {at : ℕ} {s : List ℕ} {m : ℕ} {d : List ℕ} {i : ℕ} → Pasting d₀ at s m d i → i < m → Pasting d₀ at s m (set d (at + i) (get_or s i 0)) (i + 1)
copy-turn v h = paste-turn v _ h refl

-- the words from src on are pasted further left

pub left-begin : (w : List ℕ) (dst src n : ℕ) → dst ≤ src → src + n ≤ length w → Pasting w dst (drop src w) n w 0
left-begin w dst src n h k = paste-begin w dst (drop src w) n (omega (arith, length-drop src w)) (omega arith)

pub left-turn : {w₀ : List ℕ} {dst src n : ℕ} {w : List ℕ} {i : ℕ} → Pasting w₀ dst (drop src w₀) n w i → dst ≤ src → i < n → Pasting w₀ dst (drop src w₀) n (set w (dst + i) (get_or w (src + i) 0)) (i + 1)
left-turn {src = src} v h k = paste-turn v _ k (paste-ahead v src refl h)

-- a loop that moves the words from src on right to dst, the last one first: those from i on are moved

pub record Shifting (d₀ : List ℕ) (dst src n : ℕ) (d : List ℕ) (i : ℕ) : Type 0 where
  pub within : i ≤ n
  pub right : src ≤ dst
  pub room : dst + n ≤ length d₀
  pub len : length d ≡ length d₀
  pub is : d ≡ paste d₀ (dst + i) (drop (src + i) d₀) (n - i)

pub right-begin : (w : List ℕ) (dst src n : ℕ) → src ≤ dst → dst + n ≤ length w → Shifting w dst src n w n
right-begin w dst src n h k = record { within = omega arith; right = h; room = k; len = refl; is = rw (sub_self n) (paste-zero w (dst + n) (drop (src + n) w)) }

module _ {d₀ : List ℕ} {dst src n : ℕ} {d : List ℕ} {i : ℕ} (v : Shifting d₀ dst src n d i) where
  pub right-turn : 0 < i → Shifting d₀ dst src n (set d (dst + (i - 1)) (get_or d (src + (i - 1)) 0)) (i - 1)
  right-turn h =
      let k : ℕ = i - 1 in
      let a : dst + i ≡ suc (dst + k) = omega arith in
      let b : src + i ≡ suc (src + k) = omega arith in
      let m : n - k ≡ suc (n - i) = omega (arith, v.within) in
      let q : dst + i ≤ length d₀ = omega (arith, v.within, v.room) in
      let x : get_or d (src + k) 0 ≡ get_or d₀ (src + k) 0 =
      ap (λ (r : List ℕ). get_or r (src + k) 0) v.is ∙ get_d-before d₀ (dst + i) (drop (src + i) d₀) (n - i) q (src + k) (omega (arith, v.right)) in
      record {
        within = omega (arith, v.within);
        right = v.right;
        room = v.room;
        len = length-set d (dst + k) (get_or d (src + k) 0) ∙ v.len;
        is = ap (λ (y : ℕ). set d (dst + k) y) x
            ∙ ap (λ (r : List ℕ). set r (dst + k) (get_or d₀ (src + k) 0)) (v.is ∙ (λ j. paste d₀ (a j) (drop (b j) d₀) (n - i)))
            ∙ paste-front d₀ (dst + k) (drop (suc (src + k)) d₀) (n - i) (get_or d₀ (src + k) 0) (omega arith)
            ∙ (λ j. paste d₀ (dst + k) (sym (drop-cons d₀ (src + k) 0 (omega (arith, v.right))) j) (sym m j));
      }

  pub right-done : i ≤ 0 → d ≡ paste d₀ dst (drop src d₀) n
  right-done h =
      let a : dst + i ≡ dst = omega arith in
      let b : src + i ≡ src = omega arith in
      let m : n - i ≡ n = omega arith in
      v.is ∙ (λ j. paste d₀ (a j) (drop (b j) d₀) (m j))

pub ruleset moves = (copy_begin, copy-turn, left-begin, left-turn, paste-done, right-begin, right-turn, right-done)
