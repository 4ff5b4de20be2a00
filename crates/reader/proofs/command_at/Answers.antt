use mathlib.Core.Path.{◌≡◌, ◌∙◌}
use Prim.Native.Nat.{◌+◌, ◌-◌, ◌≤◌}
use native.Mathlib.Omega.{arith}
use lib.ListN.{length, get_or}
use Rattle.model.specs.Res.{ok}
use Rattle.model.specs.Command.{opcodes, operand_bytes}
use Rattle.question.specs.declared.Question.TheVariants.{Command}
use Rattle.question.proofs.Passing.{passed_on}
use Rattle.reader.proofs.Opcodes.{known_count}
use Rattle.reader.proofs.Places.{stands-unknown, stands-short, stands-high, stands-command}
use Rattle.reader.proofs.command_at.Goals as goal
use Rattle.reader.proofs.command_at.Goals.{After-operands, In_ok-operands}

-- the byte is known, with k operand bytes
known : (c : After-operands) → ok c.operands.result ≡ operand_bytes opcodes (get_or c.args.file.now c.args.at 0)
known c = known_count _ c.in_ok-opcode.ensures c.operands.ensures

-- and they stand in the file
room : (c : In_ok-operands) → c.operands.result ≤ length c.args.file.now - (c.args.at + 1)
room c = let l = rw c.in_ok-operands.ensures.ok_part at c.get.ensures.lookup.0 in omega (arith, l.1)

pub returns-in_err-opcode : goal.returns-in_err-opcode
returns-in_err-opcode c =
    passed_on _ c.from_residual.result _ c.from_residual.ensures.1
    ∙ stands-unknown c.args.file.now c.args.at c.requires c.in_err-opcode.ensures

pub returns-in_err-operands : goal.returns-in_err-operands
returns-in_err-operands c =
    let none = c.in_err-operands.ensures.ok_part in
    let few = rw none at c.get.ensures.lookup.0 in
    let asked = rw none at c.in_err-operands.ensures.value in
    let q : c.in_err-operands.field-0.0 ≡ Command = cc in
    let k = known (goal.at.returns-in_err-operands c).After-operands in
    passed_on _ c.from_residual-in_err-operands.result _ c.from_residual-in_err-operands.ensures.1
    ∙ rw q (stands-short c.args.file.now c.args.at c.requires k (omega (arith, few)))

pub returns-in_err-command : goal.returns-in_err-command
returns-in_err-command c =
    let k = known (goal.at.returns-in_err-command c).After-operands in
    let r = room (goal.at.returns-in_err-command c).In_ok-operands in
    let lent = (rw c.in_ok-operands.ensures.ok_part at c.get.ensures.lookup.0).2 in
    passed_on _ _ _ c.from_residual-in_err-command.ensures.1
    ∙ stands-high c.args.file.now c.args.at c.requires k r (rw (← c.in_ok-opcode.ensures, lent) at c.in_err-command.ensures)

pub returns : goal.returns
returns c =
    let k = known (goal.at.returns c).After-operands in
    let r = room (goal.at.returns c).In_ok-operands in
    let lent = (rw c.in_ok-operands.ensures.ok_part at c.get.ensures.lookup.0).2 in
    stands-command c.args.file.now c.args.at c.requires k r (rw (← c.in_ok-opcode.ensures, lent) at c.in_ok-command.ensures)
