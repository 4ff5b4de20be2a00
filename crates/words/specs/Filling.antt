-- Words that come to a place.
use Rattle.std.specs.Prelude.{List, ℕ, replicate}
use Rattle.words.specs.declared.Filling.{Filling}
use Rattle.words.specs.declared.Filling.TheVariants.{Zeros, Given}

-- the words themselves
abbrev pub filled : Filling → List ℕ
filled (Zeros n) = replicate n 0
filled (Given w) = w.now
