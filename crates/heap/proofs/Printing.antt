-- What was handed on and what is left are together as long as the listing.
use mathlib.Core.Path.{◌≡◌, ap, sym}
use mathlib.Core.Bool.{true}
use mathlib.Core.List.{List}
use Prim.Native.Nat.{ℕ, ◌+◌, ◌*◌, ◌^◌, ◌≤◌, ◌<◌}
use native.Mathlib.Omega.{arith}
use lib.ListN.{length, take}
use lib.Seq.{length-take-le}
use Rattle.model.specs.Listing.{longest_file, listing}
use Rattle.listing.specs.declared.Run.{Run}
use Rattle.listing.specs.Left.{left_of, Going, Fills}
use Rattle.listing.proofs.Printing.{nothing_left}
use Rattle.heap.specs.Bytes.{Prints}

pub taken : (k : ℕ) (out : List ℕ) → k ≤ length out → k ≡ length (take k out)
taken k out h = sym (length-take-le k out h)

-- a buffer has at most 16,384 bytes, and each is filled from a further place of the file
pub record Printing (file image : List ℕ) (run : Run) (len : ℕ) : Type 0 where
  pub going : Going file image run
  pub counted : len + length (left_of file image run) ≡ length (listing file)
  pub few : len ≤ 16384 * run.at

pub print-none : {file image : List ℕ} {run : Run} {len : ℕ} → Going file image run × (left_of file image run ≡ listing file) → len ≡ 0 → Printing file image run len
print-none (g, e) z = record { going = g; counted = omega (arith, z, ap length e); few = omega (arith, z) }

module _ {file image : List ℕ} {run : Run} {len : ℕ} (p : Printing file image run len) where
  module _ {image' out : List ℕ} {run' : Run} {used : ℕ} (h : run.at < length file) (l : length out ≤ 16384) (f : Fills file image run image' run' out used) where
    pub print-fits : length file ≤ longest_file + 1 → len + length (take used out) < 2 ^ 64
    unfolding longest_file
    print-fits short = omega (arith, p.few, f.inside, length-take-le used out f.inside)

  pub print-done : length file ≤ run.at → Prints file len true
  print-done h =
      let end : run.at ≡ length file = omega (arith, p.going.within) in
      let none : length (left_of file image run) ≡ 0 = ap length (nothing_left file image run end) in
      record { most = omega (arith, p.counted); all = λ e. omega (arith, none, p.counted) }
