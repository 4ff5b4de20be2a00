-- The registers in the model: a list of cells. And good registers, whose values are those of valid cells.
use Rattle.std.specs.Prelude.{◌≡◌, true, List, map, ℕ, get_or}
use Rattle.model.specs.Records.{Cell, valid}
use Rattle.value.specs.declared.Value.{Value}
use Rattle.value.specs.declared.Value.TheVariants.{Uninitialized}
use Rattle.value.specs.Value.{value_cell, Whole, Ranged}
use Rattle.registers.specs.declared.Registers.{Registers}

abbrev pub cells_of_registers : Registers → List Cell
cells_of_registers s = map value_cell s.cells

-- what a register holds at first
abbrev pub unset : Value
unset = Uninitialized

-- the value that its cell's words spell
pub record GoodValue (v : Value) : Type 0 where
  pub cell : valid (value_cell v) ≡ true
  pub whole : Whole v
  pub ranged : Ranged v

-- past the last register stands `unset`, which is good too
pub record Good (s : Registers) : Type 0 where
  pub values : (k : ℕ) → GoodValue (get_or s.cells k unset)
