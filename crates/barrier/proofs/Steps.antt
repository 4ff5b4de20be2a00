-- A count step against the model's.
use mathlib.Core.Path.{◌≡◌, refl, ap, ◌∙◌}
use mathlib.Core.Bool.{Bool, true, false, not}
use Prim.Native.Nat.{ℕ, ◌+◌, ◌-◌, ◌%◌, ◌^◌, ◌<◌, ◌≤◌}
use native.Mathlib.Omega.{arith}
use native.Mathlib.Numerals.{add-one}
use lib.Dec.{eqb}
use lib.ListN.{get_or, set, replicate, get_or-replicate}
use borrow.Author.Tests.{lt-ltb, le-ltb}
use mir.Syntax.{w64}
use mir.Val.{of_z}
use Rattle.std.proofs.Common.{Some, None}
use Rattle.std.specs.Bool.{then_some}
use Rattle.model.specs.Res.{Res, ok, refuse}
use Rattle.model.specs.Records.{Ptr, Cell, plain, ref, blank}
use Rattle.model.specs.Barrier.{Barrier, cache, most, counts, count, up, down, count_in, count_out, present, absent}
use Rattle.value.specs.declared.Pointer.{Pointer}
use Rattle.value.specs.declared.Value.{Value}
use Rattle.value.specs.declared.Value.TheVariants.{Uninitialized, Int, Bool as BoolV, Float as FloatV, Char, Pointer as PointerV}
use Rattle.value.specs.Value.{value_cell, crossing}
use Rattle.barrier.specs.declared.WriteBarrier.{WriteBarrier}
use Rattle.barrier.specs.declared.Way.{Way}
use Rattle.barrier.specs.declared.Way.TheVariants.{In, Out}
use Rattle.barrier.specs.Counts.{barrier_if, barrier_of, step_of}

-- A step counts a pointer to another heap, and nothing else: what count_in and count_out share
pub record Steps (own : ℕ) (f : Cell → Barrier → Res Barrier) (g : ℕ → Barrier → Res Barrier) : Type 0 where
  pub of_plain : (k v : ℕ) (b : Barrier) → ok b ≡ f (plain k v) b
  pub of_ref : (p : Ptr) (b : Barrier) → elim (eqb p.heap own) [ true ↦ ok b | false ↦ g (p.base % 256) b ] ≡ f (ref p) b

pub steps-in : (own : ℕ) → Steps own (count_in own) up
unfolding count_in
steps-in own = record { of_plain = λ k v b. refl; of_ref = λ p b. refl }

pub steps-out : (own : ℕ) → Steps own (count_out own) down
unfolding count_out
steps-out own = record { of_plain = λ k v b. refl; of_ref = λ p b. refl }

abbrev pointer : Pointer → Ptr
pointer p = record { heap = p.heap; base = p.base; off = of_z w64 p.offset }

abbrev step_at : Way → ℕ → Barrier → Res Barrier
step_at In = up
step_at Out = down

pub steps_of : (way : Way) (own : ℕ) → Steps own (step_of way own) (step_at way)
unfolding step_of
steps_of In = steps-in
steps_of Out = steps-out

module _ {own : ℕ} {f : Cell → Barrier → Res Barrier} {g : ℕ → Barrier → Res Barrier} (s : Steps own f g) (b : Barrier) where
  -- where no pointer crosses, nothing is counted
  pub step-none : (v : Value) → None ≡ crossing own v → ok b ≡ f (value_cell v) b
  unfolding value_cell blank crossing
  step-none Uninitialized h = s.of_plain _ _ b
  step-none (Int x) h = s.of_plain _ _ b
  step-none (BoolV x) h = s.of_plain _ _ b
  step-none (FloatV n x) h = s.of_plain _ _ b
  step-none (Char x) h = s.of_plain _ _ b
  step-none (PointerV p) h = go (eqb p.heap own) h (s.of_ref (pointer p) b)
    where
      go : (t : Bool) → None ≡ then_some (not t) p → elim t [ true ↦ ok b | false ↦ g (p.base % 256) b ] ≡ f (ref (pointer p)) b → ok b ≡ f (ref (pointer p)) b
      go true n e = e
      go false n e = absurd cc

  -- where one does, it is counted at its place
  pub step_some : (v : Value) (p : Pointer) → Some p ≡ crossing own v → (k : ℕ) → k ≡ p.base % 256 → g k b ≡ f (value_cell v) b
  unfolding value_cell blank crossing
  step_some Uninitialized p h k at = absurd cc
  step_some (Int x) p h k at = absurd cc
  step_some (BoolV x) p h k at = absurd cc
  step_some (FloatV n x) p h k at = absurd cc
  step_some (Char x) p h k at = absurd cc
  step_some (PointerV q) p h k at = go (eqb q.heap own) h (s.of_ref (pointer q) b)
    where
      go : (t : Bool) → Some p ≡ then_some (not t) q → elim t [ true ↦ ok b | false ↦ g (q.base % 256) b ] ≡ f (ref (pointer q)) b → g k b ≡ f (ref (pointer q)) b
      go true n e = absurd cc
      go false n e = let is : p ≡ q = cc in rw (at, is) e

-- a present barrier with b's counts
pub record Opened (b s : WriteBarrier) : Type 0 where
  pub is : s.present ≡ true
  pub same : s.counts ≡ counts (barrier_of b)

module _ (b s : WriteBarrier) where
  pub opened-absent : b.present ≡ false → s ≡ record { present = true; counts = replicate 256 0 } → Opened b s
  unfolding counts cache
  opened-absent h e = record { is = ap (λ (x : WriteBarrier). x.present) e; same = rw h (ap (λ (x : WriteBarrier). x.counts) e) }

  pub opened-present : b.present ≡ true → s ≡ b → Opened b s
  unfolding counts
  opened-present h e = record { is = ap (λ (x : WriteBarrier). x.present) e ∙ h; same = rw h (ap (λ (x : WriteBarrier). x.counts) e) }

-- a full count is no absent barrier's
full-present : (b : Barrier) (k : ℕ) → k < 256 → 4294967295 ≤ get_or (counts b) k 0 → present (counts b) ≡ b
unfolding counts cache
full-present absent k small h = absurd (omega (arith, get_or-replicate {A = ℕ} 256 k 0 0 small))
full-present (present cs) k small h = refl

module _ (b s : WriteBarrier) (o : Opened b s) (k : ℕ) where
  pub full_back : k < 256 → 4294967295 ≤ get_or s.counts k 0 → barrier_of s ≡ barrier_of b
  full_back small h = rw (o.is, o.same) (full-present (barrier_of b) k small (rw o.same at h))

  pub up-full : (get_or s.counts k 0 + 1 < 2 ^ 32 → ⊥) → refuse 11 ≡ up k (barrier_of b)
  unfolding up count most
  up-full h = let full : 4294967295 ≤ get_or s.counts k 0 = omega arith in rw (← o.same, le-ltb _ _ full)

  pub up_more : get_or s.counts k 0 + 1 < 2 ^ 32 → ok (barrier_if s.present (set s.counts k (get_or s.counts k 0 + 1))) ≡ up k (barrier_of b)
  unfolding up count most
  up_more h = let room : get_or s.counts k 0 < 4294967295 = omega arith in rw (← o.same, lt-ltb _ _ room, o.is, add-one)

module _ (b : WriteBarrier) (k : ℕ) where
  pub down-absent : b.present ≡ false → ok (barrier_of b) ≡ down k (barrier_of b)
  unfolding down
  down-absent h = rw h

  module _ (h : b.present ≡ true) where
    pub down-none : (1 ≤ get_or b.counts k 0 → ⊥) → refuse 10 ≡ down k (barrier_of b)
    unfolding down
    down-none e = let none : get_or b.counts k 0 ≡ 0 = omega arith in rw (h, none)

    pub down-less : 1 ≤ get_or b.counts k 0 → ok (barrier_if b.present (set b.counts k (get_or b.counts k 0 - 1))) ≡ down k (barrier_of b)
    unfolding down
    down-less e = rw (h, lt-ltb 0 _ e)
