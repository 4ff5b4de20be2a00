-- Words copied one by one over a list of the same length.
use mathlib.Core.Path.{◌≡◌, refl, ap, ◌∙◌}
use mathlib.Core.List.{List, [], ◌++◌, append-nil}
use Prim.Native.Nat.{ℕ, ◌+◌, ◌≤◌, ◌<◌}
use native.Mathlib.Nat.{zero-add}
use native.Mathlib.Omega.{arith}
use native.Mathlib.Numerals.{add-one}
use lib.ListN.{length, get_or, take, drop, set, drop_of_length-le}
use lib.Seq.{take_all, paste-suc, length-paste}

-- the first i words of s stand in d, which was d₀
pub record Copied (s d₀ : List ℕ) (i : ℕ) (d : List ℕ) : Type 0 where
  pub within : i ≤ 256
  pub same : d ≡ take i s ++ drop i d₀

pub copied_none : (s d₀ : List ℕ) → Copied s d₀ 0 d₀
copied_none s d₀ = record { within = omega arith; same = refl }

module _ {s d₀ d : List ℕ} {i : ℕ} (c : Copied s d₀ i d) (ls : length s ≡ 256) (ld : length d₀ ≡ 256) where
  pub copied-length : length d ≡ length d₀
  copied-length = ap length c.same ∙ (rw zero-add at (length-paste d₀ 0 s i (omega arith) (omega arith)))

  pub copied_more : i < 256 → Copied s d₀ (i + 1) (set d i (get_or s i 0))
  copied_more h = record { within = omega arith; same = rw (c.same, add-one) (simp zero-add at (paste-suc d₀ 0 s i 0 (omega arith) (omega arith))) }

  pub copied_all : 256 ≤ i → d ≡ s
  copied_all h =
      let none : drop i d₀ ≡ [] = drop_of_length-le d₀ {i = i} (omega arith) in
      c.same ∙ rw (take_all i s (omega arith), none) (append-nil s)
