-- Before the first command, without a heap, the whole listing is left.
use mathlib.Core.Path.{◌≡◌, refl}
use mathlib.Core.Bool.{Bool, true, false}
use mathlib.Core.List.{List, [], ◌∷◌}
use Prim.Native.Nat.{ℕ, ◌<◌}
use native.Mathlib.Nat.{not-suc-le-zero}
use native.Mathlib.Omega.{arith}
use lib.Dec.{leb}
use lib.ListN.{length, replicate}
use borrow.Author.Tests.{leb-false}
use Rattle.model.specs.Lists.{flat}
use Rattle.model.specs.Records.{blank}
use Rattle.model.specs.Command.{parse_all}
use Rattle.model.specs.Run.{State, started, no_line}
use Rattle.model.specs.Listing.{line, lines_from, longest_file, lines, listing}
use Rattle.registers.specs.declared.Registers.{Registers}
use Rattle.registers.specs.Cells.{cells_of_registers, Good}
use Rattle.command.specs.State.{heap_in, state_of, Held, heapless}
use Rattle.listing.specs.declared.Run.{Run}
use Rattle.listing.specs.Left.{by_length, commands_from, listing_from, left_of, Going}

abbrev first : Registers → Run
first s = record { at = 0; number = 1; state = heapless s }

held_none : Held []
held_none = record { formed = λ h. absurd (not-suc-le-zero h); bounded = λ h. absurd (not-suc-le-zero h) }

no-heap : (s : Registers) → cells_of_registers s ≡ replicate 16 blank → state_of [] s ≡ started
unfolding state_of heap_in started
no-heap s e = rw e

only-12 : (s : State) (file : List ℕ) → longest_file < length file → lines_from 1 s [] file ≡ line 1 (no_line 12) ∷ []
unfolding lines_from
only-12 s [] h = absurd (not-suc-le-zero h)
only-12 s (b ∷ w) h = refl

module _ (file buffer : List ℕ) (s : Registers) (e : cells_of_registers s ≡ replicate 16 blank) where
  all_left : left_of file buffer (first s) ≡ listing file
  unfolding left_of listing_from commands_from listing lines
  all_left = rw (no-heap s e) (go (leb (length file) longest_file) refl)
    where
      go : (b : Bool) → leb (length file) longest_file ≡ b → flat (lines_from 1 started (by_length b (parse_all file) ([], file)).0 (by_length b (parse_all file) ([], file)).1) ≡ flat (elim b [ true ↦ lines_from 1 started (parse_all file).0 (parse_all file).1 | false ↦ line 1 (no_line 12) ∷ [] ])
      go true p = refl
      go false p = rw (only-12 started file (leb-false (length file) longest_file p))

  pub begins : Good s → Going file buffer (first s) × (left_of file buffer (first s) ≡ listing file)
  begins g = (record { within = omega arith; counted = omega arith; ready = record { within = omega arith; held = held_none; good = g } }, all_left)
