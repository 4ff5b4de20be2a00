use mathlib.Core.Path.{◌≡◌}
use mathlib.Core.List.{List}
use Prim.Native.Nat.{ℕ, zero, suc, ◌+◌, ◌*◌, ◌≤◌}
use native.Mathlib.Omega.{arith}
use lib.ListN.{length}
use borrow.Author.Rules.{rules}
use Rattle.model.specs.Records.{Ptr}
use Rattle.trace.specs.Words.{members}
use Rattle.trace.specs.Traces.{most_members}
use Rattle.trace.proofs.Heaps.{own-room, own-done}
use Rattle.trace.proofs.Generation.list_members.Goals as goal

lens-few : (own : ℕ) (lens : List ℕ) → length lens ≤ most_members own lens
lens-few zero lens = omega arith
lens-few (suc own) lens = omega arith

start-room : (own : ℕ) (lens : List ℕ) (r n : ℕ) → 3 * (r + most_members own lens) ≤ n → 3 * (r + length lens) ≤ n
start-room own lens r n h = omega (arith, lens-few own lens, h)

pub start-count-requires : goal.start-count-requires
start-count-requires c = start-room _ _ _ _ c.requires

pub walk-requires : goal.walk-requires
walk-requires c = own-room _ _ _ _ _ _ _ _ c.args.self.two c.args.self.within c.start-count.ensures c.requires c.start-count.auto.list

lent : (n : ℕ) (w x : List ℕ) {l : List Ptr} → x ≡ w → members n w ≡ l → members n x ≡ l
lent n w x e f = rw e f

pub returns : goal.returns
returns c =
    own-done _ _ _ _ _ _ _ _ c.args.self.two c.args.self.within c.start-count.ensures c.requires c.start-count.auto.list
    (lent _ c.walk.new.members.words.now _ (search (rules, c.walk.ensures.same)) c.walk.ensures.is)
