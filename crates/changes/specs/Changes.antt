-- Cells that change alike are counted alike: one step, as often as there are such cells.
use Rattle.std.specs.Prelude.{ℕ, zero, suc}
use Rattle.model.specs.Res.{Res, ok, ◌>>=◌}
use Rattle.model.specs.Records.{Ptr, ref}
use Rattle.model.specs.Barrier.{Barrier, count_in, count_out}
use Rattle.model.specs.Collector.{moved_to}

-- a step k times, one after the other; the first refusal ends it
unfoldable pub times : {B : Type 0} → ℕ → (B → Res B) → B → Res B
times zero f b = ok b
times (suc k) f b = f b >>= times k f

-- a cell that held it counted out as it was, then in as it is
unfoldable pub count_change : ℕ → Ptr × ℕ → Barrier → Res Barrier
count_change own m b = count_out own (ref m.0) b >>= count_in own (ref (moved_to m))
