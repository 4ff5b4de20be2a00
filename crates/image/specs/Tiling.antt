-- One step of `tiles`.
use Rattle.std.specs.Prelude.{Bool, true, false, ◌&&◌, ℕ, zero, suc, ◌-◌, eqb, ltb, leb, Option}
use Rattle.std.specs.Bool.{then_some}

abbrev pub next_if : Bool → ℕ → ℕ → Option (ℕ × ℕ)
next_if t left skip = then_some t (left, skip)

-- after the length x: what is left to fill, and how many places its allocation still takes
unfoldable pub tile_of : ℕ → ℕ → ℕ → Option (ℕ × ℕ)
tile_of left (suc skip) x = next_if (eqb x 0) left skip
tile_of left zero x = elim (eqb left 0) [ true ↦ next_if (eqb x 0) 0 0 | false ↦ next_if (ltb 0 x && leb x left) (left - x) (x - 1) ]
