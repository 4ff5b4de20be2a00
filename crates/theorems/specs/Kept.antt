-- What a call leaves: a refused one image and roots as they were, an answered one a formed image of the same sizes, and as
-- many roots, all valid.
use Rattle.std.specs.Prelude.{◌≡◌, true, List, [], ◌∷◌, ℕ, length}
use Rattle.model.specs.Res.{ok, refuse}
use Rattle.model.specs.Records.{whole_cells}
use Rattle.model.specs.Image.{sizes_of, sized, formed}
use Rattle.model.specs.Calls.{Outcome, Call, allocs, reads, writes, call}

pub record Kept (w roots : List ℕ) (o : Outcome) : Type 0 where
  pub refused : (q : ℕ) → o.answer ≡ refuse q → (o.image ≡ w) × (o.roots ≡ roots)
  pub answered : (l : List ℕ) → o.answer ≡ ok l
      → (sized o.image ≡ true) × (formed o.image ≡ true) × (sizes_of o.image ≡ sizes_of w) × (whole_cells o.roots ≡ true) × (length o.roots ≡ length roots)

-- the roots that a call brings
abbrev pub roots_of : Call → List ℕ
roots_of (allocs roots scratch a) = roots
roots_of (reads p) = []
roots_of (writes p v) = []

-- a list of calls run from an image: what each answered and left, and the last image

unfoldable pub events : List Call → List ℕ → List (Call × Outcome)
events [] w = []
events (c ∷ cs) w = (c, call c w) ∷ events cs (call c w).image

unfoldable pub run : List Call → List ℕ → List ℕ
run [] w = w
run (c ∷ cs) w = run cs (call c w).image
