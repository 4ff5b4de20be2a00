-- Laws of `paste` and `padded`.
use Prim.Native.Nat.{ℕ, zero, suc, ◌+◌, ◌-◌, ◌≤◌}
use mathlib.Core.Path.{◌≡◌, refl, sym, ap, ◌∙◌}
use mathlib.Core.List.{List, ◌++◌, append_assoc}
use native.Mathlib.Nat.{sub-zero}
use native.Mathlib.Omega.{arith}
use lib.ListN.{length, take, drop, length-append, length-drop, replicate, length-replicate, replicate-append-replicate, drop_of_length-le}
use lib.Seq.{paste, take-paste, drop-paste, drop-drop, take_all, take-take, take-append-le, length-take-le, drop_at}
use borrow.Rule.Slice.PartMut.{put_mid}
use Rattle.std.proofs.lemmas.Slice.{put_mid-paste}
use Rattle.std.proofs.Common.{Bor}
use Rattle.words.specs.Words.{padded}
use Rattle.words.specs.Filling.{filled}
use Rattle.words.specs.declared.Filling.{Filling}
use Rattle.words.specs.declared.Filling.TheVariants.{Zeros, Given}

-- past what was pasted, and before it, nothing changes
module _ (d : List ℕ) (at : ℕ) (s : List ℕ) (n : ℕ) (h : at ≤ length d) where
  pub drop_past : (k : ℕ) → n ≤ length s → at + n ≤ k → drop k (paste d at s n) ≡ drop k d
  drop_past k j l =
      let e : k ≡ at + n + (k - (at + n)) = omega arith in
      rw (e, ← (drop-drop (k - (at + n)) (at + n) (paste d at s n)), drop-paste d at s n h j) (drop-drop (k - (at + n)) (at + n) d)

-- zeros to the end

pub padded-length : (l : List ℕ) (n : ℕ) → length l ≤ n → length (padded l n) ≡ n
unfolding padded
padded-length l n h = omega (arith, length-append l (replicate (n - length l) 0), length-replicate {A = ℕ} (n - length l) 0)

drop-zeros : (k n : ℕ) → drop {A = ℕ} k (replicate n 0) ≡ replicate (n - k) 0
drop-zeros zero n = rw sub-zero
drop-zeros (suc k) zero = let e : 0 - suc k ≡ 0 = omega arith in rw e
drop-zeros (suc k) (suc n) = let e : suc n - suc k ≡ n - k = omega arith in rw e (drop-zeros k n)

pub zeroed : (d : List ℕ) (at n : ℕ) → at + n ≤ length d → drop (at + n) d ≡ replicate (length d - (at + n)) 0 → paste d at (replicate n 0) n ≡ padded (take at d) (length d)
unfolding padded
zeroed d at n h z =
    let all : take {A = ℕ} n (replicate n 0) ≡ replicate n 0 = take_all n (replicate n 0) (omega (arith, length-replicate {A = ℕ} n 0)) in
    let left : n + (length d - (at + n)) ≡ length d - length (take at d) = omega (arith, length-take-le at d (omega arith)) in
    rw (z, all, append_assoc, replicate-append-replicate, left)

-- `w[at..].fill(0)`
pub zeros-filled : (w : List ℕ) (at : ℕ) → at ≤ length w → {ys : List ℕ} → ys ≡ replicate (length w - at) 0 → put_mid at (length w - at) w ys ≡ padded (take at w) (length w)
zeros-filled w at h {ys} e =
    let n : ℕ = length w - at in
    let none : length w - (at + n) ≡ 0 = omega arith in
    put_mid-paste at n w ys (replicate n 0) n e refl (sym (length-replicate {A = ℕ} n 0))
    ∙ zeroed w at n (omega arith) (rw none (drop_of_length-le w {i = at + n} (omega arith)))

-- `open_place`, and words put at the place

-- the words in use behind the place
abbrev rest_of : ℕ → ℕ → List ℕ → List ℕ
rest_of past used w = take (used - past) (drop past w)

module _ (at old used new : ℕ) (w : List ℕ) (h : (at + old ≤ used) × (used ≤ length w) × (used - old + new ≤ length w)) where
  abbrev behind : List ℕ
  behind = rest_of (at + old) used w

  abbrev end : ℕ
  end = at + new + (used - (at + old))

  end-inside : end ≤ length w
  end-inside = omega (arith, h.0, h.1, h.2)

  behind-inside : used - (at + old) ≤ length (drop (at + old) w)
  behind-inside = omega (arith, length-drop (at + old) w, h.0, h.1)

  zero_rest : drop used w ≡ replicate (length w - used) 0 → (k : ℕ) → used ≤ k → drop k w ≡ replicate (length w - k) 0
  zero_rest z k l =
      let e : k ≡ used + (k - used) = omega arith in
      let f : length w - used - (k - used) ≡ length w - k = omega arith in
      ap (λ (j : ℕ). drop j w) e ∙ sym (drop-drop (k - used) used w) ∙ ap (drop (k - used)) z ∙ drop-zeros (k - used) (length w - used) ∙ ap (λ (j : ℕ). replicate j 0) f

  pub opened : drop used w ≡ replicate (length w - used) 0 → {a v : List ℕ} → a ≡ paste w (at + new) (drop (at + old) w) (used - (at + old)) → length a ≡ length w
      → (m : ℕ) → m ≡ used - end → v ≡ paste a end (replicate m 0) m → v ≡ padded (take (at + new) w ++ behind) (length w)
  opened z {a} p la m em q =
      let s : List ℕ = drop (at + old) w in
      let n : ℕ = used - (at + old) in
      let front : take end a ≡ take (at + new) w ++ behind = ap (take end) p ∙ take-paste w (at + new) s n (omega (arith, end-inside)) behind-inside in
      let rest : drop (end + m) a ≡ replicate (length a - (end + m)) 0 =
      ap (drop (end + m)) p ∙ drop_past w (at + new) s n (omega (arith, end-inside)) (end + m) behind-inside (omega arith) ∙ rw la (zero_rest z (end + m) (omega arith)) in
      q ∙ zeroed a end m (omega (arith, end-inside, h.1)) rest ∙ (λ i. padded (front i) (la i))

  -- s has as many words as the place
  pub spliced : (s : List ℕ) → length s ≡ new → {v u : List ℕ} → v ≡ padded (take (at + new) w ++ behind) (length w) → u ≡ paste v at s new → u ≡ padded (take at w ++ (s ++ behind)) (length w)
  unfolding padded
  spliced s ls {v} {u} p q =
      let t : List ℕ = take (at + new) w in
      let lt : length t ≡ at + new = length-take-le (at + new) w (omega (arith, end-inside)) in
      let z : List ℕ = replicate (length w - length (t ++ behind)) 0 in
      let front : take at v ≡ take at w =
      ap (take at) (p ∙ append_assoc t behind z) ∙ take-append-le at t (behind ++ z) (omega arith) ∙ take-take at (at + new) w (omega arith) in
      let rest : drop (at + new) v ≡ behind ++ z = ap (drop (at + new)) (p ∙ append_assoc t behind z) ∙ drop_at t (behind ++ z) (at + new) lt in
      let e : length (t ++ behind) ≡ length (take at w ++ (s ++ behind)) =
      omega (arith, length-append t behind, length-append (take at w) (s ++ behind), length-append s behind, length-take-le at w (omega (arith, end-inside))) in
      q
      ∙ (λ i. (front i ++ take_all new s (omega arith) i) ++ rest i)
      ∙ append_assoc (take at w) s (behind ++ z)
      ∙ ap (λ (r : List ℕ). take at w ++ r) (sym (append_assoc s behind z))
      ∙ sym (append_assoc (take at w) (s ++ behind) z)
      ∙ ap (λ (j : ℕ). (take at w ++ (s ++ behind)) ++ replicate (length w - j) 0) e

-- `splice`
module _ (at old used : ℕ) (w : List ℕ) (new : Filling) (h : (at + old ≤ used) × (used ≤ length w) × (used - old + length (filled new) ≤ length w)) (n : ℕ) (e : n ≡ length (filled new)) {v : List ℕ} (p : v ≡ padded (take (at + n) w ++ rest_of (at + old) used w) (length w)) {u : List ℕ} where
  replaced-by : (s : List ℕ) → filled new ≡ s → u ≡ paste v at s (length s) → u ≡ padded (take at w ++ (filled new ++ rest_of (at + old) used w)) (length w)
  replaced-by s f q =
      let l : length s ≡ n = sym (e ∙ ap length f) in
      spliced at old used n w (h.0, h.1, rw e h.2) (filled new) (sym e) p (q ∙ ap (paste v at s) l ∙ ap (λ (r : List ℕ). paste v at r n) (sym f))

  pub spliced-zeros : (k : ℕ) → new ≡ Zeros k → u ≡ paste v at (replicate k 0) k → u ≡ padded (take at w ++ (filled new ++ rest_of (at + old) used w)) (length w)
  spliced-zeros k f q = replaced-by (replicate k 0) (ap filled f) (q ∙ ap (paste v at (replicate k 0)) (sym (length-replicate {A = ℕ} k 0)))

  pub spliced-given : (s : Bor (List ℕ)) → new ≡ Given s → u ≡ paste v at s.now (length s.now) → u ≡ padded (take at w ++ (filled new ++ rest_of (at + old) used w)) (length w)
  spliced-given s f = replaced-by s.now (ap filled f)

pub ruleset laws = (zeros-filled, opened, spliced-zeros, spliced-given)
