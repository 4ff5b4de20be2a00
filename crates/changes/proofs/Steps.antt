-- A step of the code against the model's, and what follows it.
use mathlib.Core.Path.{◌≡◌, refl, ap, ◌∙◌}
use mathlib.Core.Bool.{false, true≢false}
use Prim.Native.Nat.{ℕ, zero, suc, ◌+◌, ◌-◌, ◌<◌, ◌≤◌}
use native.Mathlib.Omega.{arith}
use Rattle.std.proofs.Common.{Result, Ok, Err, Option, Some, None}
use Rattle.std.specs.Option.{is_some}
use Rattle.model.specs.Res.{Res, ok, refuse, ◌>>=◌}
use Rattle.model.specs.Records.{Ptr, Cell, ref}
use Rattle.model.specs.Barrier.{Barrier, count_in, count_out}
use Rattle.model.specs.Collector.{moved_to}
use Rattle.question.specs.Question.{number, answer}
use Rattle.question.specs.declared.Question.{Question}
use Rattle.value.specs.declared.Pointer.{Pointer}
use Rattle.value.specs.declared.Value.{Value}
use Rattle.value.specs.Value.{value_cell, crossing}
use Rattle.barrier.specs.declared.WriteBarrier.{WriteBarrier}
use Rattle.barrier.proofs.Steps.{steps-in, steps-out, step-none}
use Rattle.barrier.specs.Counts.{barrier_of}
use Rattle.changes.specs.Changes.{times, count_change}

-- a step made, and the rest to follow
module _ (m : Res Barrier) (f : Barrier → Res Barrier) (r : Result WriteBarrier Question) (e : answer barrier_of r ≡ m) where
  then-done : (d : WriteBarrier) → r ≡ Ok d → f (barrier_of d) ≡ (m >>= f)
  then-done d k = rw (← e, k)

  then-refused : (q : Question) → r ≡ Err q → refuse (number q) ≡ (m >>= f)
  then-refused q k = rw (← e, k)

-- one change: v is what such a cell held, u what it holds then
module _ (own : ℕ) (m : Ptr × ℕ) (b : Barrier) {v : Cell} (was : v ≡ ref m.0) (r : Result WriteBarrier Question) (e : answer barrier_of r ≡ count_out own v b) where
  out : answer barrier_of r ≡ count_out own (ref m.0) b
  out = e ∙ ap (λ (c : Cell). count_out own c b) was

  pub change-refused : (q : Question) → r ≡ Err q → refuse (number q) ≡ count_change own m b
  unfolding count_change
  change-refused q k = then-refused _ _ r out q k

  pub change-in : (d : WriteBarrier) → r ≡ Ok d → {u : Cell} → u ≡ ref (moved_to m) → count_in own u (barrier_of d) ≡ count_change own m b
  unfolding count_change
  change-in d k becomes = ap (λ (c : Cell). count_in own c (barrier_of d)) becomes ∙ then-done _ (count_in own (ref (moved_to m))) r out d k

-- no pointer crosses
none-crosses : (own : ℕ) (v : Value) (o : Option Pointer) → o ≡ crossing own v → is_some o ≡ false → None ≡ crossing own v
none-crosses own v None e h = e
none-crosses own v (Some p) e h = absurd (true≢false h)

-- one change of which a single step counts: v is the value that was, u what it becomes
module _ (own : ℕ) (m : Ptr × ℕ) (b : Barrier) (v u : Value) (was : value_cell v ≡ ref m.0) (becomes : value_cell u ≡ ref (moved_to m)) (o : Option Pointer) where
  pub alone-in : o ≡ crossing own v → is_some o ≡ false → count_in own (value_cell u) b ≡ count_change own m b
  unfolding count_change
  alone-in e h =
      let same : ok b ≡ count_out own (ref m.0) b = step-none (steps-out own) b v (none-crosses own v o e h) ∙ ap (λ (c : Cell). count_out own c b) was in
      ap (λ (c : Cell). count_in own c b) becomes ∙ ap (λ (r : Res Barrier). r >>= count_in own (ref (moved_to m))) same

  pub alone-out : o ≡ crossing own u → is_some o ≡ false → count_out own (value_cell v) b ≡ count_change own m b
  unfolding count_change
  alone-out e h = ap (λ (c : Cell). count_out own c b) was ∙ go (count_out own (ref m.0) b)
    where
      go : (r : Res Barrier) → r ≡ (r >>= count_in own (ref (moved_to m)))
      go (ok d) = step-none (steps-in own) d u (none-crosses own u o e h) ∙ ap (λ (c : Cell). count_in own c d) becomes
      go (refuse q) = refl

-- a step of k: the first i are made, and the others lead to what all come to
module _ (k : ℕ) (f : Barrier → Res Barrier) (i : ℕ) (b : Barrier) (z : Res Barrier) (left : times (k - i) f b ≡ z) where
  pub times_none : k ≤ i → ok b ≡ z
  unfolding times
  times_none h = let none : k - i ≡ 0 = omega arith in rw none at left

  module _ (h : i < k) where
    times_more : (f b >>= times (k - (i + 1)) f) ≡ z
    unfolding times
    times_more = let more : k - i ≡ suc (k - (i + 1)) = omega arith in rw more at left

  module _ (h : i < k) (r : Result WriteBarrier Question) (e : answer barrier_of r ≡ f b) where
    pub times-after : (answer barrier_of r >>= times (k - (i + 1)) f) ≡ z
    times-after = rw e (times_more h)

    pub times-less : (d : WriteBarrier) → r ≡ Ok d → times (k - (i + 1)) f (barrier_of d) ≡ z
    times-less d done = then-done _ (times (k - (i + 1)) f) r e d done ∙ times_more h

    pub times-refused : (q : Question) → r ≡ Err q → refuse (number q) ≡ z
    times-refused q out = then-refused _ (times (k - (i + 1)) f) r e q out ∙ times_more h

-- steps that answer alike
pub times-same : {B : Type 0} (k : ℕ) (f g : B → Res B) → ((b : B) → f b ≡ g b) → (b : B) → times k f b ≡ times k g b
unfolding times
times-same zero f g h b = refl
times-same {B} (suc k) f g h b = ap (λ (r : Res B). r >>= times k f) (h b) ∙ go (times-same k f g h) (g b)
  where
    go : ((b : B) → times k f b ≡ times k g b) → (r : Res B) → (r >>= times k f) ≡ (r >>= times k g)
    go rest (ok d) = rest d
    go rest (refuse q) = refl

pub ruleset laws = (times_none, times-less)
