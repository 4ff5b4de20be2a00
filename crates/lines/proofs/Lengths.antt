-- The most bytes that a text has.
use mathlib.Core.Bool.{Bool, true, false, cond}
use mathlib.Core.List.{[], ◌∷◌}
use Prim.Native.Nat.{ℕ, ◌*◌, ◌-◌, ◌/◌, ◌≤◌}
use native.Mathlib.Omega.{arith}
use lib.Dec.{ltb}
use lib.ListN.{length, length-append}
use mir.Syntax.{w64}
use mir.Val.{of_z}
use Rattle.model.specs.Records.{Cell, plain, ref}
use Rattle.model.specs.Listing.{decimal, signed, figure_text, cell_text, new_word, alloc_word, set_word, load_word, store_word, report_word, figure_word, no_word, line_text}
use Rattle.std.specs.Prelude.{Result, Ok, Err}
use Rattle.value.specs.Value.{value_cell}
use Rattle.figure.proofs.Digits.{decimal-length}
use Rattle.figure.proofs.Writes.{sign-length}
use Rattle.report.specs.Numbers.{numbers}
use Rattle.command.specs.declared.answers.Answer.{Answer}
use Rattle.command.specs.declared.answers.Answer.TheVariants.{New, Alloc, Set, Load, Store, Report, Figure as FigureOf}
use Rattle.lines.specs.Longest.{longest_spaced, longest_text}
use Rattle.lines.specs.Told.{told}
use Rattle.lines.proofs.Loops.{spaced-length}

pub signed-length : (w : ℕ) → length (signed w) ≤ longest_spaced
unfolding signed
signed-length w = go (ltb w 0x8000_0000_0000_0000)
  where
    go : (b : Bool) → length (cond b (decimal w) (0x2D ∷ decimal (0x1_0000_0000_0000_0000 - w))) ≤ longest_spaced
    go true = omega (arith, decimal-length w)
    go false = omega (arith, decimal-length (0x1_0000_0000_0000_0000 - w))

cell-length : (c : Cell) → length (cell_text c) ≤ 4 * longest_spaced
unfolding cell_text
cell-length (plain k v) = spaced-length (k ∷ 0 ∷ v ∷ 0 ∷ [])
cell-length (ref p) = spaced-length (5 ∷ p.heap ∷ p.base ∷ p.off ∷ [])

pub answer-length : (a : Result Answer ℕ) → length (line_text (told a)) ≤ longest_text
unfolding line_text figure_text numbers new_word alloc_word set_word load_word store_word report_word figure_word no_word
answer-length (Ok New) = omega arith
answer-length (Ok (Alloc a)) =
    let p = a.pointer in
    let y = a.nursery in
    let e = a.elder in
    simp length-append (omega (arith, spaced-length (p.heap ∷ p.base ∷ []), signed-length (of_z w64 p.offset), spaced-length (y.collections ∷ y.visits ∷ e.collections ∷ e.visits ∷ [])))
answer-length (Ok Set) = omega arith
answer-length (Ok (Load v)) = omega (arith, cell-length (value_cell v))
answer-length (Ok Store) = omega arith
answer-length (Ok (Report s)) = omega (arith, spaced-length (numbers s))
answer-length (Ok (FigureOf f)) = simp length-append (omega (arith, sign-length f.negative 0x2D, decimal-length (f.thousandths / 1000)))
answer-length (Err q) = omega (arith, spaced-length (q ∷ []))
