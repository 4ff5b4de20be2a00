use mathlib.Core.Path.{sym}
use Rattle.reader.proofs.Opcodes.{unknown}
use Rattle.reader.proofs.OpcodeTryFromU8.try_from.Goals as goal

pub returns-in_default : goal.returns-in_default
returns-in_default c =
    let r = c.in_default.in_default-own.rest in
    sym (unknown c.args.byte r.0.0.0.0.0.0.1 r.0.0.0.0.0.1 r.0.0.0.0.1 r.0.0.0.1 r.0.0.1 r.0.1 r.1)
