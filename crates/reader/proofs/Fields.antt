-- Operands as std reads their bytes.
use mathlib.Core.Path.{◌≡◌, ap, ◌∙◌}
use mathlib.Core.List.{List, [], ◌∷◌}
use Prim.Native.Nat.{ℕ, suc, ◌+◌, ◌≤◌, ◌<◌}
use native.Mathlib.Omega.{arith}
use lib.ListN.{length, get_or, take, drop}
use lib.Seq.{drop-cons}
use mir.Syntax.{w16, w64}
use Rattle.std.specs.Int.{from_le_bytes}
use Rattle.model.specs.Command.{little_endian, field}

pub field_one : (w : List ℕ) (at : ℕ) → at < length w → get_or w at 0 ≡ field w at 1
unfolding field little_endian
field_one w at h = rw (drop-cons w at 0 h) (omega arith)

pub field_two : (w : List ℕ) (at : ℕ) → at + 2 ≤ length w → from_le_bytes w16 (get_or w at 0 ∷ get_or w (at + 1) 0 ∷ []) ≡ field w at 2
unfolding field little_endian
field_two w at h = let e : at + 1 ≡ suc at = omega arith in rw (e, drop-cons w at 0 (omega arith), drop-cons w (suc at) 0 (omega arith)) (omega arith)

eight : (bs : List ℕ) → length bs ≡ 8 → from_le_bytes w64 bs ≡ little_endian bs
unfolding little_endian
eight (a ∷ b ∷ c ∷ d ∷ e ∷ f ∷ g ∷ h ∷ []) l = omega arith
eight [] l = absurd (omega arith)
eight (a ∷ []) l = absurd (omega arith)
eight (a ∷ b ∷ []) l = absurd (omega arith)
eight (a ∷ b ∷ c ∷ []) l = absurd (omega arith)
eight (a ∷ b ∷ c ∷ d ∷ []) l = absurd (omega arith)
eight (a ∷ b ∷ c ∷ d ∷ e ∷ []) l = absurd (omega arith)
eight (a ∷ b ∷ c ∷ d ∷ e ∷ f ∷ []) l = absurd (omega arith)
eight (a ∷ b ∷ c ∷ d ∷ e ∷ f ∷ g ∷ []) l = absurd (omega arith)
eight (a ∷ b ∷ c ∷ d ∷ e ∷ f ∷ g ∷ h ∷ i ∷ r) l = absurd (omega arith)

pub field_eight : (w bs : List ℕ) (at : ℕ) → bs ≡ take 8 (drop at w) → length bs ≡ 8 → from_le_bytes w64 bs ≡ field w at 8
unfolding field
field_eight w bs at e l = eight bs l ∙ ap little_endian e
