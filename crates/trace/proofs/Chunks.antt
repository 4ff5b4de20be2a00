-- Entries as chunks of three words.
use Rattle.std.proofs.Common.{◌≡◌, ℕ, zero, suc, ◌+◌, ◌*◌, ◌/◌, ◌≤◌, List, ◌∷◌, length, take, drop, map, refl, sym, ap, ◌∙◌, arith}
use Rattle.std.specs.Simd.{first_chunks}
use lib.Seq.{get_or-take, get_or-drop, take-take, length-take-le}
use Rattle.std.proofs.lemmas.List.{drop-take}
use Rattle.trace.specs.Words.{tab, ptr_at, members, listed}
use Rattle.trace.proofs.Entries.{tab-ext}

pub first-entry : (w : List ℕ) → ptr_at (take 3 w) 0 ≡ ptr_at w 0
unfolding ptr_at
first-entry w = rw (get_or-take 3 w 0 0 (omega arith), get_or-take 3 w 1 0 (omega arith), get_or-take 3 w 2 0 (omega arith))

later-entry : (w : List ℕ) (i : ℕ) → ptr_at (drop 3 w) i ≡ ptr_at w (suc i)
unfolding ptr_at
later-entry w i =
    let a : 3 + 3 * i ≡ 3 * suc i = omega arith in
    let b : 3 + (3 * i + 1) ≡ 3 * suc i + 1 = omega arith in
    let c : 3 + (3 * i + 2) ≡ 3 * suc i + 2 = omega arith in
    rw (get_or-drop 3 w (3 * i) 0, get_or-drop 3 w (3 * i + 1) 0, get_or-drop 3 w (3 * i + 2) 0, a, b, c)

tab-later : {A : Type 0} (f : ℕ → A) (i n : ℕ) → tab (λ k. f (suc k)) i n ≡ tab f (suc i) n
unfolding tab
tab-later f i zero = refl
tab-later f i (suc n) = ap (λ l. f (suc i) ∷ l) (tab-later f (suc i) n)

pub entries-are : (n : ℕ) (w : List ℕ) → map (λ e. ptr_at e 0) (first_chunks 3 n w) ≡ members n w
unfolding members tab
entries-are zero w = refl
entries-are (suc n) w =
    let rest : map (λ e. ptr_at e 0) (first_chunks 3 n (drop 3 w)) ≡ tab (ptr_at w) 1 n =
    entries-are n (drop 3 w) ∙ tab-ext (ptr_at (drop 3 w)) (λ k. ptr_at w (suc k)) 0 n (λ k b. later-entry w k) ∙ tab-later (ptr_at w) 0 n in
    λ j. first-entry w j ∷ rest j

-- the chunks of a list that is cut to n entries are its first n

chunks-cut : (n m : ℕ) (w : List ℕ) → first_chunks 3 n (take (3 * n + m) w) ≡ first_chunks 3 n w
chunks-cut zero m w = refl
chunks-cut (suc n) m w =
    let e : 3 * suc n + m ≡ 3 + (3 * n + m) = omega arith in
    rw e (λ j. take-take 3 (3 + (3 * n + m)) w (omega arith) j ∷ (ap (first_chunks 3 n) (drop-take 3 (3 * n + m) w) ∙ chunks-cut n m (drop 3 w)) j)

pub cut-chunks : (n : ℕ) (w : List ℕ) → 3 * n ≤ length w → first_chunks 3 (length (take (3 * n) w) / 3) (take (3 * n) w) ≡ first_chunks 3 n w
cut-chunks n w h =
    let l : length (take (3 * n) w) / 3 ≡ n = omega (arith, length-take-le (3 * n) w h) in
    rw l (let e : 3 * n ≡ 3 * n + 0 = omega arith in rw e (chunks-cut n 0 w))

pub listed-cut : (n : ℕ) (w : List ℕ) → 3 * n ≤ length w → listed (take (3 * n) w) ≡ members n w
listed-cut n w h = sym (entries-are (length (take (3 * n) w) / 3) (take (3 * n) w)) ∙ ap (map (λ e. ptr_at e 0)) (cut-chunks n w h) ∙ entries-are n w
