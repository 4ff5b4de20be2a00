-- Any command: a second `new` is refused; the first is made before any heap.
use mathlib.Core.Path.{◌≡◌}
use mathlib.Core.List.{List}
use Prim.Native.Nat.{ℕ, ◌<◌}
use lib.ListN.{length}
use Rattle.std.specs.Prelude.{Result, Err}
use Rattle.question.specs.declared.Question.{Question}
use Rattle.question.specs.declared.Question.TheVariants.{Heap}
use Rattle.model.specs.Heap.{Sizes}
use Rattle.model.specs.Command.{new}
use Rattle.model.specs.Run.{step}
use Rattle.registers.specs.declared.Registers.{Registers}
use Rattle.registers.specs.Cells.{Good}
use Rattle.command.specs.declared.answers.Answer.{Answer}
use Rattle.command.specs.State.{Held}
use Rattle.command.specs.Steps.{Acts}
use Rattle.command.proofs.Heaps.{heap-there, refuses}

pub new-refused : (z : Sizes) {w : List ℕ} {r r' : Registers} {a : Result Answer Question} → Held w → Good r → 0 < length w → (a ≡ Err Heap) × (r' ≡ r) → Acts (new z) w r a w r'
unfolding step
new-refused z {w} {r} h g pos = refuses Heap h g (rw (heap-there w r pos))
