use Rattle.question.proofs.Passing.{refused_as}
use Rattle.command.proofs.Heaps.{none_there, some_there}
use Rattle.std.proofs.Common.{rules}
use mathlib.Core.Path.{◌≡◌, refl}
use Prim.Native.Nat.{◌<◌}
use lib.ListN.{length}
use mir.Syntax.{w64}
use mir.Val.{of_z}
use mir.ValLaws.{to_z-of_z}
use Rattle.value.specs.Value.{value_cell}
use Rattle.command.specs.Steps.{target_answer, target_in}
use Rattle.command.proofs.Stepping.{store-heapless, store-nowhere, store-refused, store-done}
use Rattle.command.proofs.store_in.Goals as goal
use Rattle.command.proofs.store_in.Goals.{After-target_of}

there : (c : After-target_of) → 0 < length c.args.image.now
there c = some_there _ c.is_empty.ensures c.if-is_empty.false

aim : (c : After-target_of) → target_answer c.target_of.result ≡ target_in (value_cell c.get-2.result) (of_z w64 c.args.a.offset)
aim c = rw (to_z-of_z w64 c.args.a.offset (search rules)) at c.target_of.ensures

pub returns-then-is_empty : goal.returns-then-is_empty
returns-then-is_empty c =
    store-heapless _ _ _ c.requires.held c.requires.good (none_there _ c.is_empty.ensures c.if-is_empty.true) (refl, refl)

pub returns : goal.returns
returns c =
    let u = c.get in
    store-done _ _ _ c.requires.held c.requires.good (there (goal.at.returns c).After-target_of) c.get-2.result c.get-2.ensures c.target_of.result (aim (goal.at.returns c).After-target_of) u.result u.ensures c.in_ok-p.was c.from.ensures c.write_formed.result _ (rw c.from-cell.ensures at c.write_formed.ensures) c.in_ok-write_formed.was

pub returns-in_err-write_formed : goal.returns-in_err-write_formed
returns-in_err-write_formed c =
    let u = c.get in
    store-refused _ _ _ c.requires.held c.requires.good (there (goal.at.returns-in_err-write_formed c).After-target_of) c.get-2.result c.get-2.ensures c.target_of.result (aim (goal.at.returns-in_err-write_formed c).After-target_of) u.result u.ensures c.in_ok-p.was c.from.ensures c.write_formed.result _ (rw c.from-cell.ensures at c.write_formed.ensures) c.in_err-write_formed.was (refused_as c.from_residual-in_err-write_formed.result _ c.from_residual-in_err-write_formed.ensures.1, refl)

pub returns-in_err-p : goal.returns-in_err-p
returns-in_err-p c =
    let u = c.get in
    store-nowhere _ _ _ c.requires.held c.requires.good (there (goal.at.returns-in_err-p c).After-target_of) c.get-2.result c.get-2.ensures c.target_of.result (aim (goal.at.returns-in_err-p c).After-target_of) u.result u.ensures c.in_err-p.was (refused_as c.from_residual.result _ c.from_residual.ensures.1, refl)
