-- The change of moved pointers, in both generations and then in roots, is the change of all of them.
use mathlib.Core.Path.{◌≡◌, refl, ap, ◌∙◌}
use mathlib.Core.List.{List, [], ◌∷◌, map}
use Prim.Native.Nat.{ℕ}
use Rattle.model.specs.Res.{Res, ok, refuse, ◌>>=◌, each}
use Rattle.model.specs.Records.{Ptr, Cell}
use Rattle.model.specs.Heap.{Nursery, Elder}
use Rattle.model.specs.Collector.{swap_cell, swap_young, swap_old, swap_all}
use Rattle.theorems.specs.Apart.{swap_both, swap_roots, with_roots}

-- pointers change in both generations first, then in roots: roots take no part in what may be refused

swap-one-apart : (m : Ptr × ℕ) (y : Nursery) (e : Elder) (r : List Cell) → swap_all m (y, e, r) ≡ (swap_both m (y, e) >>= with_roots (map (swap_cell m) r))
unfolding swap_all swap_both with_roots
swap-one-apart m y e r = go (swap_young m y)
  where
    both : Nursery → Elder → Res (Nursery × Elder)
    both y' e' = ok (y', e')

    all : Nursery → Elder → Res (Nursery × Elder × List Cell)
    all y' e' = ok (y', e', map (swap_cell m) r)

    inner : (y' : Nursery) (n : Res Elder) → (n >>= all y') ≡ ((n >>= both y') >>= with_roots (map (swap_cell m) r))
    inner y' (ok e') = refl
    inner y' (refuse q) = refl

    go : (n : Res Nursery) → (n >>= λ y'. swap_old m e >>= all y') ≡ ((n >>= λ y'. swap_old m e >>= both y') >>= with_roots (map (swap_cell m) r))
    go (ok y') = inner y' (swap_old m e)
    go (refuse q) = refl

pub swaps-apart : (ms : List (Ptr × ℕ)) (y : Nursery) (e : Elder) (r : List Cell) → each swap_all ms (y, e, r) ≡ (each swap_both ms (y, e) >>= with_roots (swap_roots ms r))
unfolding swap_roots with_roots
swaps-apart [] y e r = refl
swaps-apart (m ∷ ms) y e r = ap (λ (x : Res (Nursery × Elder × List Cell)). x >>= each swap_all ms) (swap-one-apart m y e r) ∙ go (swap_both m (y, e)) (λ y' e'. swaps-apart ms y' e' (map (swap_cell m) r))
  where
    go : (n : Res (Nursery × Elder)) → ((y' : Nursery) (e' : Elder) → each swap_all ms (y', e', map (swap_cell m) r) ≡ (each swap_both ms (y', e') >>= with_roots (swap_roots ms (map (swap_cell m) r))))
        → ((n >>= with_roots (map (swap_cell m) r)) >>= each swap_all ms) ≡ ((n >>= each swap_both ms) >>= with_roots (swap_roots ms (map (swap_cell m) r)))
    go (ok g) ih = ih g.0 g.1
    go (refuse q) ih = refl
