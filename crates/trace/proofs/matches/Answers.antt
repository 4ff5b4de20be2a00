use Rattle.std.proofs.Common.{◌≡◌, ℕ, Bool, eqb, List, [], ◌∷◌, ◌||◌, bit_and, refl, ap, ◌∙◌, rules, tests}
use Rattle.std.specs.List.{list_any}
use Rattle.std.proofs.lemmas.Iterator.{YieldsList-from_slice}
use Rattle.std.proofs.lemmas.Iterator.Search.{any_from_yields_List}
use Rattle.model.specs.Barrier.{matches_mask, matches}
use Rattle.trace.proofs.matches.Goals as goal

abbrev one_matches : ℕ → ℕ → Bool
one_matches b m = eqb (bit_and m b) m

any_matches : (ms : List ℕ) (b : ℕ) → list_any (one_matches b) ms ≡ matches ms b
unfolding matches matches_mask
any_matches [] b = refl
any_matches (m ∷ ms) b = ap (λ t. one_matches b m || t) (any_matches ms b)

pub returns : goal.returns
returns c =
    let ms = c.args.masks.now in
    let b = c.args.base in
    any_from_yields_List (one_matches b) _ _ _ c.any.ensures.ran (YieldsList-from_slice ms cc) (λ x r q k. search (rules, tests)) ∙ any_matches ms b
