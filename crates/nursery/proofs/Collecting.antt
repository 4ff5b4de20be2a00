-- A collection, by the three questions that it asks.
use mathlib.Core.Path.{◌≡◌, sym, ap, ◌∙◌}
use mathlib.Core.Bool.{Bool, true, false}
use mathlib.Core.List.{List, ◌++◌}
use Prim.Native.Nat.{ℕ, ◌+◌, ◌-◌, ◌*◌, ◌/◌, ◌≤◌, ◌<◌}
use native.Mathlib.Omega.{arith}
use lib.Dec.{ltb}
use lib.ListN.{length, take}
use borrow.Author.Tests.{lt-ltb, le-ltb, le-leb, lt-leb}
use Rattle.model.specs.Records.{Ptr, Cell}
use Rattle.model.specs.Barrier.{most}
use Rattle.model.specs.Heap.{Heap}
use Rattle.model.specs.Nursery.{young_members, survivors, all_allocated, emptied, collect_young}
use Rattle.theorems.specs.Fit.{Image}
use Rattle.theorems.specs.Does.{Does}
use Rattle.trace.specs.Words.{members, listed}
use Rattle.trace.proofs.Chunks.{listed-cut}
use Rattle.trace.proofs.Entries.{length-members}
use Rattle.survivors.proofs.Entries.{members-front}
use Rattle.fields.specs.Fields.{Reads, Turns, on_young}
use Rattle.fields.proofs.Parts.{most-is}
use Rattle.nursery.specs.Steps.{Listed, collected_answer, collect_step}
use Rattle.question.specs.declared.Question.TheVariants.{Allocation, Bound}
use Rattle.std.proofs.Common.{Ok, Err}

-- the survivors v, at the front of what is lent
pub in-front : (kept visits : ℕ) (v list rest : List ℕ) → 3 * visits ≤ length list → kept ≤ length (take (3 * visits) list) / 3 → length v ≡ length (take (3 * visits) list)
    → members kept v ≡ survivors (listed (take (3 * visits) list)) → members kept (v ++ rest) ≡ survivors (members visits list)
in-front kept visits v list rest fits few long are =
    members-front kept v rest (omega (arith, few, long)) ∙ are ∙ ap survivors (listed-cut visits list fits)

module _ (roots : List Cell) (ms : List ℕ) {w : List ℕ} {collections : ℕ} (counted : Reads (λ h. h.young.colls) w collections) where
  -- the collections counter is full
  pub collect-full : 4294967295 ≤ collections → (list : List ℕ) {v : List ℕ} → Does (collect_step roots ms) w (collected_answer (Err Bound) list) v
  unfolding collect_step collect_young
  collect-full f list = record { does = λ h i. rw (counted.reads h i, le-ltb collections most (omega (arith, most-is))) }

  module _ (below : collections < 4294967295) {visits : ℕ} {list : List ℕ} (kept : ℕ) (sorted : List ℕ) (entered : Listed roots ms w visits list) (are : members kept sorted ≡ survivors (members visits list)) where
    module _ (h : Heap) (i : Image w h) where
      not_full : ltb h.young.colls most ≡ true
      not_full = rw (counted.reads h i) (lt-ltb collections most (omega (arith, most-is)))

      survivors-are : members kept sorted ≡ survivors (young_members h.young roots ms)
      survivors-are = rw (← entered.are h i) are

      visits-are : visits ≡ length (young_members h.young roots ms)
      visits-are = sym (length-members visits list) ∙ ap length (entered.are h i)

    module _ (room : 3 * kept ≤ length sorted) {all : Bool} (lent : Reads (λ h. all_allocated h.young (listed (take (3 * kept) sorted))) w all) where
      asked : Reads (λ h. all_allocated h.young (members kept sorted)) w all
      asked = rw (listed-cut kept sorted room) at lent

      -- a survivor has no allocation
      pub collect-lost : all ≡ false → {v : List ℕ} → Does (collect_step roots ms) w (collected_answer (Err Allocation) sorted) v
      unfolding collect_step collect_young
      collect-lost f = record { does = λ h i. rw (not_full h i, ← survivors-are h i, asked.reads h i, f) }

      module _ (found : all ≡ true) {promotions : ℕ} (moved : Reads (λ h. h.young.proms) w promotions) where
        promotions-are : (h : Heap) → Image w h → h.young.proms + length (young_members h.young roots ms) ≡ promotions + visits
        promotions-are h i = omega (arith, moved.reads h i, visits-are h i)

        -- the promotions counter would be too high
        pub collect-over : 4294967295 - promotions < visits → {v : List ℕ} → Does (collect_step roots ms) w (collected_answer (Err Bound) sorted) v
        unfolding collect_step collect_young
        collect-over f =
            let over : most < promotions + visits = omega (arith, most-is) in
            record { does = λ h i. rw (not_full h i, ← survivors-are h i, asked.reads h i, found, promotions-are h i, lt-leb (promotions + visits) most over) }

        pub collect-done : visits ≤ 4294967295 - promotions → {v : List ℕ} → Turns (on_young (λ y. emptied y visits)) w v → Does (collect_step roots ms) w (collected_answer (Ok (record { visits = visits; survivors = kept })) sorted) v
        unfolding collect_step collect_young
        collect-done f t = record {
          does = λ h i.
              let below : promotions + visits ≤ most = omega (arith, most-is, moved.reads h i, i.fit.young.proms) in
              rw (not_full h i, ← survivors-are h i, asked.reads h i, found, promotions-are h i, le-leb (promotions + visits) most below, ← visits-are h i)
              (ap (λ (l : List Ptr). (visits, l)) (survivors-are h i), t.turns h i);
        }
