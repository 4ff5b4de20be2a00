use mathlib.Core.Path.{◌≡◌, ap, ◌∙◌}
use Prim.Native.Nat.{◌+◌, ◌-◌}
use native.Mathlib.Omega.{arith}
use lib.ListN.{length}
use Rattle.reader.proofs.Fields.{field_eight}
use Rattle.reader.proofs.word_at.Goals as goal

pub returns : goal.returns
returns c =
    let whole = rw c.unwrap.ensures at c.try_into.ensures.1 in
    let few : c.args.at + 8 - c.args.at ≡ 8 = omega arith in
    c.from_le_bytes.ensures ∙ field_eight c.args.w.now c.unwrap.result c.args.at (rw few at whole.same) (ap length whole.same ∙ whole.long)
