-- Whole lines one behind the other in `out`.
use mathlib.Core.Path.{◌≡◌}
use mathlib.Core.Logic.{◌⊎◌, inr}
use mathlib.Core.List.{List, ◌++◌, append_assoc}
use Prim.Native.Nat.{ℕ, ◌≤◌, ◌<◌}
use native.Mathlib.Omega.{arith}
use lib.ListN.{length, take}
use Rattle.figure.specs.Written.{Wrote}
use Rattle.figure.proofs.Writes.{take-written}
use Rattle.listing.specs.declared.Run.{Run}
use Rattle.listing.specs.Left.{left_of, Going, Advances}

-- a text that was written ends what is used
take-wrote : {text out out' : List ℕ} {at end : ℕ} → Wrote text out at out' end → take end out' ≡ take at out ++ text
take-wrote {text} {out} {at = at} w = rw (w.behind, w.bytes) (take-written out at text w.room)

-- as Fills, but nothing may be written yet
pub record Filling (file buffer₀ : List ℕ) (r : Run) (buffer : List ℕ) (next : Run) (out : List ℕ) (used : ℕ) : Type 0 where
  pub inside : used ≤ length out
  pub listed : take used out ++ left_of file buffer next ≡ left_of file buffer₀ r
  pub from : r.at ≤ next.at
  pub begun : (used ≡ 0) ⊎ (r.at < next.at)
  pub going : Going file buffer next

module _ {file buffer₀ buffer out : List ℕ} {r next : Run} {used : ℕ} (f : Filling file buffer₀ r buffer next out used) where
  pub fill_more : {buffer' out' : List ℕ} {next' : Run} {end : ℕ} → length out' ≡ length out → Advances file buffer next out used buffer' next' out' end → Filling file buffer₀ r buffer' next' out' end
  fill_more {buffer' = buffer'} {next' = next'} l a = record {
    inside = omega (arith, l, a.wrote.room, a.wrote.behind);
    listed = rw (take-wrote a.wrote, append_assoc (take used out) a.text (left_of file buffer' next'), a.listed) f.listed;
    from = omega (arith, f.from, a.further);
    begun = inr (omega (arith, f.from, a.further));
    going = a.going;
  }
