use Rattle.question.proofs.Passing.{refused_as}
use Rattle.command.proofs.Heaps.{none_there, some_there}
use Rattle.std.proofs.Common.{rules}
use mathlib.Core.Path.{◌≡◌, refl}
use Prim.Native.Nat.{◌<◌}
use lib.ListN.{length}
use mir.Syntax.{w64}
use mir.Val.{of_z}
use mir.ValLaws.{to_z-of_z}
use Rattle.value.specs.Value.{value_cell}
use Rattle.command.specs.Steps.{target_answer, target_in}
use Rattle.command.proofs.Stepping.{load-heapless, load-nowhere, load-refused, load-done}
use Rattle.command.proofs.load_in.Goals as goal
use Rattle.command.proofs.load_in.Goals.{After-target_of}

there : (c : After-target_of) → 0 < length c.args.image.now
there c = some_there _ c.is_empty.ensures c.if-is_empty.false

aim : (c : After-target_of) → target_answer c.target_of.result ≡ target_in (value_cell c.get.result) (of_z w64 c.args.a.offset)
aim c = rw (to_z-of_z w64 c.args.a.offset (search rules)) at c.target_of.ensures

pub returns-then-is_empty : goal.returns-then-is_empty
returns-then-is_empty c =
    load-heapless _ _ _ c.requires.held c.requires.good (none_there _ c.is_empty.ensures c.if-is_empty.true) (refl, refl)

pub invariant_of-read_formed : goal.invariant_of-read_formed
invariant_of-read_formed c = record { formed = c.requires.held.formed (there (goal.at.invariant_of-read_formed c).After-target_of) }

pub returns : goal.returns
returns c =
    load-done _ _ _ c.requires.held c.requires.good (there (goal.at.returns c).After-target_of) c.get.result c.get.ensures c.target_of.result (aim (goal.at.returns c).After-target_of) c.in_ok-p.was c.read_formed.result c.read_formed.ensures c.in_ok-v.was (refl, c.set.ensures)

pub returns-in_err-v : goal.returns-in_err-v
returns-in_err-v c =
    load-refused _ _ _ c.requires.held c.requires.good (there (goal.at.returns-in_err-v c).After-target_of) c.get.result c.get.ensures c.target_of.result (aim (goal.at.returns-in_err-v c).After-target_of) c.in_ok-p.was c.read_formed.result c.read_formed.ensures c.in_err-v.was (refused_as c.from_residual-in_err-v.result _ c.from_residual-in_err-v.ensures.1, refl)

pub returns-in_err-p : goal.returns-in_err-p
returns-in_err-p c =
    load-nowhere _ _ _ c.requires.held c.requires.good (there (goal.at.returns-in_err-p c).After-target_of) c.get.result c.get.ensures c.target_of.result (aim (goal.at.returns-in_err-p c).After-target_of) c.in_err-p.was (refused_as c.from_residual.result _ c.from_residual.ensures.1, refl)
