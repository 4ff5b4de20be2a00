-- Cells that come to a place.
use Rattle.std.specs.Prelude.{List, ℕ, ◌*◌, ◌/◌, length, replicate}
use Rattle.model.specs.Records.{Cell, blank}
use Rattle.model.specs.Calls.{cells_in}
use Rattle.words.specs.declared.Source.{Source}
use Rattle.words.specs.declared.Source.TheVariants.{Blank, Given}

-- their words
abbrev pub filling : Source → List ℕ
filling (Blank n) = replicate (3 * n) 0
filling (Given c) = c.words.now

-- the cells
abbrev pub cells_from : Source → List Cell
cells_from (Blank n) = replicate n blank
cells_from (Given c) = cells_in c.words.now

abbrev pub count_of : Source → ℕ
count_of (Blank n) = n
count_of (Given c) = length c.words.now / 3
