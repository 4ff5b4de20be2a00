use mathlib.Core.Path.{◌∙◌}
use Rattle.reader.proofs.Fields.{field_two}
use Rattle.reader.proofs.short_at.Goals as goal

pub returns : goal.returns
returns c = c.from_le_bytes.ensures ∙ field_two c.args.w.now c.args.at c.requires
