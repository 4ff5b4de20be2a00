use mathlib.Core.Path.{◌≡◌, refl, sym, ap, ◌∙◌}
use mathlib.Core.List.{List}
use Prim.Native.Nat.{ℕ, suc, ◌+◌, ◌*◌, ◌≤◌, ◌<◌, ◌-◌}
use native.Mathlib.Numerals.{add-one}
use native.Mathlib.Nat.{sub-zero}
use native.Mathlib.Omega.{arith}
use lib.ListN.{length}
use Rattle.model.specs.Reach.{enter, walk}
use Rattle.model.specs.Records.{Ptr, same_ptr}
use Rattle.trace.specs.declared.Members.{Members}
use Rattle.trace.specs.Words.{ptr_at}
use Rattle.trace.specs.Entered.{entries, Becomes, Entered, Room}
use Rattle.trace.proofs.Entries.{length-members, member-at}
use Rattle.trace.proofs.Closure.{walk-next, walk_end, walk-grows}
use Rattle.trace.proofs.Generation.walk.Invariants.{Walking}
use Rattle.trace.proofs.Generation.walk.Goals as goal

module _ (step : Ptr → List Ptr) where
  few : (k p : ℕ) (l : Members) (goal : List Ptr) (size : ℕ) → walk same_ptr step k p (entries l) ≡ goal → 3 * length goal ≤ size → 3 * l.count ≤ size
  few k p l goal size e h = omega (arith, walk-grows same_ptr step k p (entries l), ap length e, length-members l.count l.words.now)

  walk-begin : (l : Members) → 3 * length (walk same_ptr step (length l.words.now) 0 (entries l)) ≤ length l.words.now → Walking step (walk same_ptr step (length l.words.now) 0 (entries l)) l l 0
  walk-begin l r =
      let goal : List Ptr = walk same_ptr step (length l.words.now) 0 (entries l) in
      record { is = rw sub-zero; fits = r; below = few (length l.words.now) 0 l goal (length l.words.now) refl r; len = refl; same = refl }

module _ {step : Ptr → List Ptr} {goal : List Ptr} {l₀ l : Members} {p : ℕ} (v : Walking step goal l₀ l p) where
  abbrev size : ℕ
  size = length l₀.words.now

  walk-done : l.count ≤ p → Becomes l₀ l goal
  walk-done h = record { is = sym (walk_end same_ptr step (size - p) p (entries l) (omega (arith, length-members l.count l.words.now))) ∙ v.is; len = v.len; same = v.same }

  module _ (h : p < l.count) where
    rest : walk same_ptr step (size - (p + 1)) (p + 1) (enter same_ptr (entries l) (step (ptr_at l.words.now p))) ≡ goal
    rest =
        let e : size - p ≡ suc (size - suc p) = omega (arith, v.below) in
        rw add-one (sym (walk-next same_ptr step (size - suc p) p (entries l) (ptr_at l.words.now p) (member-at l.count l.words.now p h)) ∙ (rw e at v.is))

    -- xs is written apart, for `search` to find the step by the invariant
    walk-room : (xs : List Ptr) → step (ptr_at l.words.now p) ≡ xs → Room l xs
    walk-room xs e =
        let more = walk-grows same_ptr step (size - (p + 1)) (p + 1) (enter same_ptr (entries l) (step (ptr_at l.words.now p))) in
        record { fits = rw (← e) (omega (arith, more, ap length rest, v.len, v.fits)) }

    walk_turn : {k : Members} → Entered l k (step (ptr_at l.words.now p)) → Walking step goal l₀ k (p + 1)
    walk_turn {k} e =
        let q : walk same_ptr step (size - (p + 1)) (p + 1) (entries k) ≡ goal = rw e.is rest in
        record { is = q; fits = v.fits; below = few step (size - (p + 1)) (p + 1) k goal size q v.fits; len = e.len ∙ v.len; same = e.same ∙ v.same }

pub loop-p-init : goal.loop-p-init
loop-p-init c = search walk-begin

pub visit-requires-clause-room : goal.visit-requires-clause-room
visit-requires-clause-room c = search walk-room

pub loop-p-preserved : goal.loop-p-preserved
loop-p-preserved c = search walk_turn

pub returns : goal.returns
returns c = search walk-done
