use mathlib.Core.Path.{◌≡◌, refl, ap, ◌∙◌}
use mathlib.Core.List.{List, [], ◌++◌}
use Prim.Native.Nat.{ℕ, ◌+◌, ◌*◌, ◌/◌, ◌≤◌}
use native.Mathlib.Omega.{arith}
use lib.ListN.{length, length-map}
use borrow.Author.Rules.{rules}
use Rattle.model.specs.Lists.{places}
use Rattle.model.specs.Reach.{enter}
use Rattle.model.specs.Records.{Ptr, same_ptr, pointers}
use Rattle.model.specs.Barrier.{matches}
use Rattle.model.specs.Nursery.{matched}
use Rattle.model.specs.Calls.{cells_in}
use Rattle.theorems.proofs.Lists.{keep_if-length, places-length}
use Rattle.theorems.proofs.Members.{pointers-length}
use Rattle.trace.specs.declared.Members.{Members}
use Rattle.trace.specs.Words.{tab, members}
use Rattle.trace.specs.Entered.{entries, Entered, Room}
use Rattle.trace.proofs.Places.{in-length}
use Rattle.trace.proofs.Closure.{enter-few, enter-append}
use Rattle.trace.proofs.start.Goals as goal

matched-few : (own : ℕ) (ms lens : List ℕ) → length (matched own ms (places 0 lens)) ≤ length lens
unfolding matched
matched-few own ms lens = rw length-map (omega (arith, keep_if-length (matches ms) (places 0 lens), places-length lens 0))

module _ (own : ℕ) (ms roots lens : List ℕ) (l : Members) (room : 3 * (length roots / 3 + length lens) ≤ length l.words.now) (none : entries l ≡ []) where
  roots_few : length (enter same_ptr [] (pointers (cells_in roots))) ≤ length roots / 3
  roots_few = omega (arith, enter-few same_ptr [] (pointers (cells_in roots)), pointers-length (cells_in roots), in-length roots)

  roots-room : Room l (pointers (cells_in roots))
  roots-room = record { fits = rw none (omega (arith, roots_few, room)) }

  module _ (k : Members) (e : Entered l k (pointers (cells_in roots))) where
    roots-are : entries k ≡ enter same_ptr [] (pointers (cells_in roots))
    roots-are = rw none at e.is

    matched-room : Room k (matched own ms (places 0 lens))
    matched-room = record { fits = omega (arith, enter-few same_ptr (entries k) (matched own ms (places 0 lens)), matched-few own ms lens, roots_few, ap length roots-are, e.len, room) }

    begun : (j : Members) → Entered k j (matched own ms (places 0 lens)) → entries j ≡ enter same_ptr [] (pointers (cells_in roots) ++ matched own ms (places 0 lens))
    begun j f = f.is ∙ rw (roots-are, enter-append)

pub enter_roots-requires : goal.enter_roots-requires
unfolding members tab
enter_roots-requires c = roots-room c.args.own c.args.masks.now _ _ _ c.requires refl

pub enter_matched-requires : goal.enter_matched-requires
unfolding members tab
enter_matched-requires c = matched-room _ _ _ _ _ c.requires refl _ c.enter_roots.ensures

lent : (n : ℕ) (w x : List ℕ) {l : List Ptr} → x ≡ w → members n w ≡ l → members n x ≡ l
lent n w x e f = rw e f

pub returns : goal.returns
unfolding members tab
returns c =
    lent _ c.enter_matched.new.self.words.now _ (search (rules, c.enter_matched.ensures.same, c.enter_roots.ensures.same))
    (begun _ _ _ _ _ c.requires refl _ c.enter_roots.ensures _ c.enter_matched.ensures)
