use mathlib.Core.Path.{◌≡◌, refl}
use mathlib.Core.Bool.{Bool, true, false}
use mir.Val.{bool_byte}
use Rattle.model.specs.Image.{flag}
use Rattle.barrier.specs.Counts.{barrier_if}
use Rattle.barrier.proofs.words.flag_word.Goals as goal

pub returns : goal.returns
unfolding flag
returns c = rw c.from.ensures (go c.args.barrier.present)
  where
    go : (t : Bool) → bool_byte t ≡ flag (barrier_if t c.args.barrier.counts)
    go true = refl
    go false = refl
