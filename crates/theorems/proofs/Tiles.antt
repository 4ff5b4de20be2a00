-- The nursery's lengths: allocations fill the places up to the cursor without gaps.
use mathlib.Core.Path.{◌≡◌, refl}
use mathlib.Core.Bool.{Bool, true, false, ◌&&◌, ◌||◌}
use mathlib.Core.List.{List, [], ◌∷◌}
use Prim.Native.Nat.{ℕ, zero, suc, ◌+◌, ◌-◌, ◌≤◌, ◌<◌}
use native.Mathlib.Nat.{not-suc-le-zero, suc-add, zero-add, sub_self}
use native.Mathlib.Omega.{arith}
use lib.Dec.{eqb, ltb, leb}
use lib.ListN.{length, get_or, set, replicate}
use Rattle.model.specs.Image.{cursor_in, tiles}
use borrow.Author.Tests.{eqb-true, ltb-true, lt-ltb, leb-true, le-leb, ne_eqb}
use Rattle.theorems.proofs.Lists.{and_left, and_right, and_both}

pub cursor-le : (c n : ℕ) → cursor_in c n ≡ true → c ≤ n
unfolding cursor_in
cursor-le c n = go (ltb c n) refl
  where
    go : (t : Bool) → ltb c n ≡ t → (t || eqb n 0 && eqb c 0) ≡ true → c ≤ n
    go true e f = omega (arith, ltb-true c n e)
    go false e f = omega (arith, eqb-true c 0 (and_right (eqb n 0) (eqb c 0) f))

pub cursor-below : (c n : ℕ) → c < n → cursor_in c n ≡ true
unfolding cursor_in
cursor-below c n h = rw (lt-ltb c n h)

-- at the start of an allocation, with places left: its length, and what is after it
record Tile (left x : ℕ) (xs : List ℕ) : Type 0 where
  pos : 0 < x
  fits : x ≤ left
  rest : tiles (left - x) (x - 1) xs ≡ true

tile : (left x : ℕ) (xs : List ℕ) → 0 < left → tiles left 0 (x ∷ xs) ≡ true → Tile left x xs
unfolding tiles
tile left x xs h e =
    let n : eqb left 0 ≡ false = ne_eqb left 0 (omega arith) in
    let f : (ltb 0 x && leb x left && tiles (left - x) (x - 1) xs) ≡ true = rw (n, tiles) at e in
    let a = and_left (ltb 0 x && leb x left) (tiles (left - x) (x - 1) xs) f in
    record {
      pos = ltb-true 0 x (and_left (ltb 0 x) (leb x left) a);
      fits = leb-true x left (and_right (ltb 0 x) (leb x left) a);
      rest = and_right (ltb 0 x && leb x left) (tiles (left - x) (x - 1) xs) f;
    }

tile-of : (left x : ℕ) (xs : List ℕ) → Tile left x xs → tiles left 0 (x ∷ xs) ≡ true
unfolding tiles
tile-of left x xs t =
    let n : eqb left 0 ≡ false = ne_eqb left 0 (omega (arith, t.pos, t.fits)) in
    rw (n, tiles) (and_both (ltb 0 x && leb x left) (tiles (left - x) (x - 1) xs) (and_both (ltb 0 x) (leb x left) (lt-ltb 0 x t.pos) (le-leb x left t.fits)) t.rest)

-- behind the last allocation all is zero

no_tile : (x : ℕ) (xs : List ℕ) → tiles 0 0 (x ∷ xs) ≡ true → (x ≡ 0) × (tiles 0 0 xs ≡ true)
unfolding tiles
no_tile x xs e = (eqb-true x 0 (and_left (eqb x 0) (tiles 0 0 xs) e), and_right (eqb x 0) (tiles 0 0 xs) e)

skip-zeros : (s : ℕ) (xs : List ℕ) → tiles 0 0 xs ≡ true → tiles 0 s xs ≡ true
unfolding tiles
skip-zeros zero xs e = e
skip-zeros (suc s) [] e = refl
skip-zeros (suc s) (x ∷ xs) e = let r = no_tile x xs e in rw r.0 (skip-zeros s xs r.1)

pub zeros-tiled : (n : ℕ) → tiles 0 0 (replicate n 0) ≡ true
unfolding tiles
zeros-tiled zero = refl
zeros-tiled (suc n) = zeros-tiled n

-- an allocation lies within what is filled

inside : (left skip : ℕ) (xs : List ℕ) (b : ℕ) → tiles left skip xs ≡ true → 0 < get_or xs b 0 → b + get_or xs b 0 ≤ skip + left
unfolding tiles
inside left skip [] b e h = absurd (not-suc-le-zero h)
inside left (suc skip) (x ∷ xs) zero e h = let z = eqb-true x 0 (and_left (eqb x 0) (tiles left skip xs) e) in absurd (omega arith)
inside left (suc skip) (x ∷ xs) (suc b) e h = omega (arith, inside left skip xs b (and_right (eqb x 0) (tiles left skip xs) e) h)
inside zero zero (x ∷ xs) zero e h = let r = no_tile x xs e in absurd (omega (arith, r.0))
inside zero zero (x ∷ xs) (suc b) e h = let r = no_tile x xs e in absurd (omega (arith, inside 0 0 xs b r.1 h))
inside (suc l) zero (x ∷ xs) zero e h = let t = tile (suc l) x xs (omega arith) e in omega (arith, t.fits)
inside (suc l) zero (x ∷ xs) (suc b) e h =
    let t = tile (suc l) x xs (omega arith) e in
    omega (arith, inside (suc l - x) (x - 1) xs b t.rest h, t.pos, t.fits)

pub allocation-inside : (cursor : ℕ) (lens : List ℕ) (b : ℕ) → tiles cursor 0 lens ≡ true → 0 < get_or lens b 0 → b + get_or lens b 0 ≤ cursor
allocation-inside cursor lens b e h = omega (arith, inside cursor 0 lens b e h)

-- one more allocation, of a cells

more : (a left skip : ℕ) (xs : List ℕ) → 0 < a → skip + left + a ≤ length xs → tiles left skip xs ≡ true → tiles (left + a) skip (set xs (skip + left) a) ≡ true
unfolding tiles
more a left skip [] h f e = absurd (omega arith)
more a left (suc skip) (x ∷ xs) h f e =
    let t = more a left skip xs h (omega arith) (and_right (eqb x 0) (tiles left skip xs) e) in
    rw (suc-add skip left) (and_both (eqb x 0) (tiles (left + a) skip (set xs (skip + left) a)) (and_left (eqb x 0) (tiles left skip xs) e) t)
more a zero zero (x ∷ xs) h f e =
    let r = no_tile x xs e in
    rw (zero-add a) (tile-of a a xs (record { pos = h; fits = omega arith; rest = rw (sub_self a) (skip-zeros (a - 1) xs r.1) }))
more a (suc l) zero (x ∷ xs) h f e =
    let t = tile (suc l) x xs (omega arith) e in
    let ih = more a (suc l - x) (x - 1) xs h (omega (arith, t.pos, t.fits)) t.rest in
    let i : x - 1 + (suc l - x) ≡ l = omega (arith, t.pos, t.fits) in
    let j : suc l - x + a ≡ suc l + a - x = omega (arith, t.fits) in
    rw (zero-add (suc l)) (tile-of (suc l + a) x (set xs l a) (record { pos = t.pos; fits = omega (arith, t.fits); rest = rw (i, j) at ih }))

pub allocation-added : (cursor a : ℕ) (lens : List ℕ) → 0 < a → cursor + a ≤ length lens → tiles cursor 0 lens ≡ true → tiles (cursor + a) 0 (set lens cursor a) ≡ true
allocation-added cursor a lens h f e = rw zero-add at (more a cursor 0 lens h (omega arith) e)
