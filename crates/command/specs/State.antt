-- The program's state in the model: heap and registers. No words are no heap.
use Rattle.std.specs.Prelude.{◌≡◌, true, List, [], ◌∷◌, ℕ, ◌≤◌, ◌<◌, length, take}
use Rattle.std.proofs.Math.Option.{Option, none, some}
use Rattle.model.specs.Heap.{Heap}
use Rattle.model.specs.Image.{decode}
use Rattle.model.specs.Run.{State as ModelState, program_bounds}
use Rattle.theorems.specs.Fit.{Image}
use Rattle.theorems.specs.Program.{program_words, program_scratch}
use Rattle.registers.specs.declared.Registers.{Registers}
use Rattle.registers.specs.Cells.{cells_of_registers, Good}
use Rattle.command.specs.declared.State.{State}

unfoldable pub heap_in : List ℕ → Option Heap
heap_in [] = none
heap_in (x ∷ w) = some (decode (x ∷ w))

unfoldable pub state_of : List ℕ → Registers → ModelState
state_of w r = record { heap = heap_in w; registers = cells_of_registers r }

-- if there is a heap, its words are an image within the program's limits
pub record Held (w : List ℕ) : Type 0 where
  pub formed : 0 < length w → Image w (decode w)
  pub bounded : 0 < length w → program_bounds (decode w).size ≡ true

-- the heap's words stand in front of a buffer
abbrev pub state_in : List ℕ → State → ModelState
state_in buffer s = state_of (take s.words buffer) s.registers

abbrev pub holding : ℕ → Registers → State
holding k r = record { words = k; registers = r }

-- before the first `new`
abbrev pub heapless : Registers → State
heapless r = holding 0 r

-- a buffer with room for any heap of the program, and scratch for its every alloc
abbrev pub Roomy : List ℕ → List ℕ → Type 0
Roomy buffer scratch = (program_words ≤ length buffer) × (program_scratch ≤ length scratch)

pub record Ready (buffer : List ℕ) (s : State) : Type 0 where
  pub within : s.words ≤ length buffer
  pub held : Held (take s.words buffer)
  pub good : Good s.registers
