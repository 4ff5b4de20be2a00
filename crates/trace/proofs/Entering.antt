-- Entering a piece at a time.
use mathlib.Core.Path.{◌≡◌, refl, sym, ap, ◌∙◌}
use mathlib.Core.List.{List, [], ◌∷◌, ◌++◌}
use Prim.Native.Nat.{◌*◌, ◌≤◌}
use native.Mathlib.Omega.{arith}
use lib.ListN.{length}
use Rattle.model.specs.Reach.{enter}
use Rattle.model.specs.Records.{Ptr, same_ptr}
use Rattle.trace.specs.declared.Members.{Members}
use Rattle.trace.specs.Entered.{entries, Becomes, Entered, Room}
use Rattle.trace.proofs.Places.{root-one, root_none, own-one, own-none, base-one}
use Rattle.trace.proofs.Closure.{enter-grows, enter-append}

-- a piece brings one pointer, or none

module _ (l : Members) (xs : List Ptr) where
  pub one-room : {p : Ptr} → Room l xs → xs ≡ p ∷ [] → Room l (p ∷ [])
  one-room r e = rw e at r

  pub one-entered : {k : Members} {p : Ptr} → xs ≡ p ∷ [] → Entered l k (p ∷ []) → Entered l k xs
  one-entered e q = rw e q

  pub none-entered : xs ≡ [] → Entered l l xs
  unfolding enter
  none-entered e = record { is = rw e; len = refl; same = refl }

-- A loop that enters what is left leads to the goal.
pub record Entering (left goal : List Ptr) (l₀ l : Members) : Type 0 where
  pub is : enter same_ptr (entries l) left ≡ goal
  pub fits : 3 * length goal ≤ length l₀.words.now
  pub len : length l.words.now ≡ length l₀.words.now
  pub same : l.words.ghost_name ≡ l₀.words.ghost_name

pub enter-begin : {l : Members} {xs left : List Ptr} → xs ≡ left → Room l xs → Entering left (enter same_ptr (entries l) xs) l l
enter-begin e r = record { is = rw e; fits = r.fits; len = refl; same = refl }

module _ {left goal : List Ptr} {l₀ l : Members} (v : Entering left goal l₀ l) where
  -- a turn enters the front of what is left
  module _ (front rest : List Ptr) (e : left ≡ front ++ rest) where
    enter-next : enter same_ptr (enter same_ptr (entries l) front) rest ≡ goal
    enter-next = sym (enter-append same_ptr (entries l) front rest) ∙ (rw e at v.is)

    pub enter-room : Room l front
    enter-room = record { fits = omega (arith, ap length enter-next, enter-grows same_ptr (enter same_ptr (entries l) front) rest, v.len, v.fits) }

    pub enter-turn : {k : Members} → Entered l k front → Entering rest goal l₀ k
    enter-turn q = record { is = rw q.is enter-next; fits = v.fits; len = q.len ∙ v.len; same = q.same ∙ v.same }

  pub enter-done : left ≡ [] → Becomes l₀ l goal
  unfolding enter
  enter-done e = record { is = rw e at v.is; len = v.len; same = v.same }

-- what a function that enters one piece needs
pub ruleset pieces = (one-room, one-entered, none-entered, root-one, root_none, own-one, own-none, base-one)
