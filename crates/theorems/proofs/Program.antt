-- The program's limits: heaps within them are within document 01's bounds, and room and scratch suffice.
use mathlib.Core.Path.{◌≡◌}
use mathlib.Core.Bool.{true}
use Prim.Native.Nat.{◌≤◌}
use native.Mathlib.Omega.{arith}
use borrow.Author.Tests.{leb-true, le-leb}
use Rattle.model.specs.Heap.{Sizes, in_bounds}
use Rattle.model.specs.Image.{image_length}
use Rattle.model.specs.Calls.{scratch_length}
use Rattle.model.specs.Run.{program_bounds}
use Rattle.theorems.specs.Program.{program_words, program_scratch}
use Rattle.theorems.proofs.Lists.{and_parts}

record Limited (z : Sizes) : Type 0 where
  n : z.n ≤ 128
  t : z.t ≤ 8192
  s : z.s ≤ 128
  c : z.c ≤ 512

module _ (z : Sizes) (e : program_bounds z ≡ true) where
  limited : Limited z
  unfolding program_bounds
  limited =
      let (e₂, c) = and_parts _ _ e in
      let (e₁, s) = and_parts _ _ e₂ in
      let (n, t) = and_parts _ _ e₁ in
      record { n = leb-true _ _ n; t = leb-true _ _ t; s = leb-true _ _ s; c = leb-true _ _ c }

  pub limits-bound : in_bounds z ≡ true
  unfolding in_bounds
  limits-bound =
      let l = limited in
      rw (le-leb z.n 2048 (omega arith), le-leb z.t 8192 (omega arith), le-leb z.s 8192 (omega arith), le-leb z.c 65536 (omega arith))

  pub limited-image : image_length z ≤ program_words
  unfolding image_length program_words
  limited-image = let l = limited in omega arith

  -- with the sixteen registers for roots
  pub limited-scratch : scratch_length z 16 ≤ program_scratch
  unfolding scratch_length image_length program_scratch
  limited-scratch = let l = limited in omega arith
