use mathlib.Core.List.{[], ◌∷◌}
use Prim.Native.Nat.{◌+◌, ◌*◌}
use native.Mathlib.Omega.{arith}
use mir.Syntax.{w64}
use mir.Val.{to_z, of_z}
use mir.ValLaws.{to_z-of_z}
use borrow.Author.Rules.{rules}
use Rattle.model.specs.Listing.{alloc_word, line_text}
use Rattle.figure.specs.Written.{Room}
use Rattle.figure.proofs.Writes.{writes-both}
use Rattle.lines.specs.Longest.{longest_spaced}
use Rattle.lines.proofs.Loops.{spaced-length}
use Rattle.lines.proofs.Lengths.{signed-length}
use Rattle.lines.proofs.alloc_text.Goals as goal
use Rattle.lines.proofs.alloc_text.Goals.{After-each_spaced}

-- what the pointer leaves of the room
left : (c : After-each_spaced) → Room (1 + 5 * longest_spaced) c.each_spaced.new.t
left c = omega (arith, c.each_spaced.ensures, spaced-length (c.from.result ∷ c.args.a.pointer.base ∷ []), c.word.ensures, c.requires)

pub byte-requires : goal.byte-requires
byte-requires c = omega (arith, left (goal.at.byte-requires c).After-each_spaced)

pub signed-requires : goal.signed-requires
signed-requires c = omega (arith, c.byte.ensures, left (goal.at.signed-requires c).After-each_spaced)

pub each_spaced-requires-2 : goal.each_spaced-requires-2
each_spaced-requires-2 c =
    let x = c.args.a.pointer.offset in
    omega (arith, c.signed.ensures, signed-length (of_z w64 (to_z w64 (of_z w64 x))), c.byte.ensures, left (goal.at.each_spaced-requires-2 c).After-each_spaced)

pub returns : goal.returns
unfolding line_text alloc_word
returns c =
    let pointer = rw c.from.ensures at c.each_spaced.ensures in
    let offset = rw (to_z-of_z w64 c.args.a.pointer.offset (search rules)) at c.signed.ensures in
    writes-both (writes-both (writes-both c.word.ensures pointer) (writes-both c.byte.ensures offset)) c.each_spaced-2.ensures
