-- One value: whether it counts, and its count stored.
use mathlib.Core.Path.{◌≡◌, refl, sym, ap, ◌∙◌}
use mathlib.Core.Bool.{Bool, true, false, not}
use mathlib.Core.List.{List}
use Prim.Native.Nat.{ℕ, zero, suc, ◌%◌}
use lib.Dec.{eqb}
use lib.ListN.{get_or}
use Rattle.std.proofs.Common.{Option, Some}
use Rattle.std.specs.Option.{is_some}
use Rattle.std.specs.Bool.{then_some}
use Rattle.model.specs.Records.{Cell, blank}
use Rattle.model.specs.Barrier.{Barrier, absent}
use Rattle.model.specs.Heap.{Heap}
use Rattle.theorems.specs.Does.{with_young, with_old}
use Rattle.value.specs.declared.Pointer.{Pointer}
use Rattle.value.specs.declared.Value.{Value}
use Rattle.value.specs.declared.Value.TheVariants.{Uninitialized, Int, Bool as BoolV, Float as FloatV, Char, Pointer as PointerV}
use Rattle.value.specs.Value.{value_cell, crossing}
use Rattle.barrier.specs.declared.WriteBarrier.{WriteBarrier}
use Rattle.barrier.specs.Counts.{barrier_of}
use Rattle.fields.specs.Fields.{Turns, with_bar, with_old_bar, bar_of, on_bar, with_count}
use Rattle.access.specs.Counting.{crosses, place_of, count_from, count_of}

pub bar-same : (own : ℕ) (h : Heap) → on_bar own (bar_of own h) h ≡ h
unfolding on_bar bar_of with_young with_old with_bar with_old_bar
bar-same zero h = refl
bar-same (suc k) h = refl

module _ (own : ℕ) (c : Cell) where
  count_none : (d b : Barrier) → crosses own c ≡ false → count_of own c d b ≡ b
  unfolding count_of
  count_none d b e = rw (e, count_of)

  count-absent : (b : Barrier) → count_of own c absent b ≡ b
  unfolding count_of
  count-absent b = go (crosses own c)
    where
      go : (t : Bool) → (elim t [ true ↦ b | false ↦ b ]) ≡ b
      go true = refl
      go false = refl

module _ (own : ℕ) (v : Value) where
  some-crosses : is_some (crossing own v) ≡ crosses own (value_cell v)
  unfolding crossing crosses value_cell blank
  some-crosses = go v
    where
      pointer : (t : Bool) (p : Pointer) → is_some (then_some t p) ≡ t
      pointer true p = refl
      pointer false p = refl

      go : (v : Value) → is_some (crossing own v) ≡ crosses own (value_cell v)
      go Uninitialized = refl
      go (Int x) = refl
      go (BoolV x) = refl
      go (FloatV n x) = refl
      go (Char x) = refl
      go (PointerV p) = pointer (not (eqb p.heap own)) p

  -- a value of which no pointer crosses
  pub apart : (o : Option Pointer) → o ≡ crossing own v → is_some o ≡ false → crosses own (value_cell v) ≡ false
  apart o e h = sym some-crosses ∙ ap is_some (sym e) ∙ h

  module _ (d : WriteBarrier) where
    pointer-count : (p : Pointer) → Some p ≡ crossing own v → d.present ≡ true → (b : Barrier) → count_of own (value_cell v) (barrier_of d) b ≡ with_count (p.base % 256) (get_or d.counts (p.base % 256) 0) b
    unfolding count_of crossing crosses place_of value_cell blank
    pointer-count p e here b = go v e
      where
        pointer : (t : Bool) (q : Pointer) → Some p ≡ then_some t q → elim t [ true ↦ count_from (q.base % 256) (barrier_of d) b | false ↦ b ] ≡ with_count (p.base % 256) (get_or d.counts (p.base % 256) 0) b
        pointer true q e = let is : p ≡ q = cc in rw (here, is)
        pointer false q e = absurd cc

        go : (v : Value) → Some p ≡ crossing own v → count_of own (value_cell v) (barrier_of d) b ≡ with_count (p.base % 256) (get_or d.counts (p.base % 256) 0) b
        go Uninitialized e = absurd cc
        go (Int x) e = absurd cc
        go (BoolV x) e = absurd cc
        go (FloatV n x) e = absurd cc
        go (Char x) e = absurd cc
        go (PointerV q) e = pointer (not (eqb q.heap own)) q e

    abbrev Stores : List ℕ → List ℕ → Type 0
    Stores w u = Turns (λ h. on_bar own (count_of own (value_cell v) (barrier_of d) (bar_of own h)) h) w u

    pub apart-stores : {w : List ℕ} → crosses own (value_cell v) ≡ false → Stores w w
    apart-stores e = record { turns = λ h i. rw (count_none own (value_cell v) (barrier_of d) (bar_of own h) e, bar-same own h) i }

    pub absent-stores : {w : List ℕ} → d.present ≡ false → Stores w w
    absent-stores e = record { turns = λ h i. rw (e, count-absent own (value_cell v) (bar_of own h), bar-same own h) i }

    pub count-stores : (p : Pointer) → Some p ≡ crossing own v → d.present ≡ true → {w u : List ℕ} {k n : ℕ} → k ≡ p.base % 256 → n ≡ get_or d.counts k 0
        → Turns (λ h. on_bar own (with_count k n (bar_of own h)) h) w u → Stores w u
    count-stores p e here at is t = record { turns = λ h i. rw (pointer-count p e here (bar_of own h)) (rw (is, at) at (t.turns h i)) }
