-- Reads one behind the other: each brings something, or is the last.
use Prim.Native.Nat.{ℕ, zero, suc}

-- whether one more read is to come, by what the last one brought
abbrev pub onward : ℕ → ℕ
onward zero = 0
onward (suc k) = 1
