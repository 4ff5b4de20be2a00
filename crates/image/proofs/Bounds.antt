-- Sizes within bounds, and what a test says.
use Rattle.model.specs.Calls.{scratch_length}
use mathlib.Core.Path.{◌≡◌, sym, ◌∙◌}
use mathlib.Core.Bool.{Bool, true, false}
use mathlib.Core.List.{List}
use Prim.Native.Nat.{ℕ, ◌*◌, ◌+◌}
use native.Mathlib.Omega.{arith}
use borrow.Author.Tests.{leb-true}
use Rattle.model.specs.Heap.{Sizes, in_bounds}
use Rattle.model.specs.Image.{image_length, sizes_of, sized}
use Rattle.theorems.proofs.Lists.{and_parts}
use Rattle.theorems.proofs.Image.{sized-says}
use Rattle.image.specs.Places.{image_end, Bounded, Sized}

-- what a test says whose answer was p
module _ {a p : Bool} (e : p ≡ a) where
  pub said-no : p ≡ false → a ≡ false
  said-no h = sym e ∙ h

  pub said-yes : p ≡ true → a ≡ true
  said-yes h = sym e ∙ h

-- sizes

pub bounded : (z : Sizes) → in_bounds z ≡ true → Bounded z
unfolding in_bounds
bounded z e =
    let (e₂, c) = and_parts _ _ e in
    let (e₁, s) = and_parts _ _ e₂ in
    let (n, t) = and_parts _ _ e₁ in
    record { n = leb-true _ _ n; t = leb-true _ _ t; s = leb-true _ _ s; c = leb-true _ _ c }

-- of sizes that were asked, and of those in a sized image

pub asked_bounds : {p : Bool} (z : Sizes) → p ≡ in_bounds z → p ≡ true → Bounded z
asked_bounds z e h = bounded z (said-yes e h)

pub sized_bounds : {z : Sizes} {w : List ℕ} → z ≡ sizes_of w → Sized w → Bounded z
unfolding sizes_of
sized_bounds e s = rw e s.bounds

pub image-end : (z : Sizes) → image_end z.n z.s z.c ≡ image_length z
unfolding image_length
image-end z = omega arith

pub scratch-end : (z : Sizes) (r : ℕ) → image_end z.n z.s z.c + 4 * (r + 2 * z.n) + 3 * (r + z.s + z.c) ≡ scratch_length z r
unfolding scratch_length image_length
scratch-end z r = omega arith

pub is-sized : (w : List ℕ) → sized w ≡ true → Sized w
unfolding sizes_of
is-sized w e =
    let (bounds, long) = sized-says w e in
    record { bounds = bounded (sizes_of w) bounds; long = long ∙ sym (image-end (sizes_of w)) }
