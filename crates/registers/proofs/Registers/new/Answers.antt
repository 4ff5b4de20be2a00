use Rattle.registers.proofs.Values.{first-cells, first_good}
use Rattle.registers.proofs.Registers.new.Goals as goal

pub returns : goal.returns
returns c = record {
  cells = first-cells 16;
  good = first_good;
}
