-- What the contracts of `src/` cite.
use Rattle.std.specs.Prelude.{List, ◌++◌, ℕ, ◌-◌, length, replicate}

-- l, and zeros up to n words
unfoldable pub padded : List ℕ → ℕ → List ℕ
padded l n = l ++ replicate (n - length l) 0
