use mathlib.Core.Path.{refl}
use Rattle.command.proofs.Performing.{new-refused}
use Rattle.command.proofs.act.Goals as goal

pub returns-in-New : goal.returns-in-New
returns-in-New c =
    rw c.in-New.is (new-refused _ c.requires.held.0 c.requires.held.1 (c.requires.image_nonzero (rw c.in-New.is)) (refl, refl))
