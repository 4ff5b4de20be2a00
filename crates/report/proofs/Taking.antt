-- The numbers, as they are read from an image.
use mathlib.Core.Path.{◌≡◌, sym, ap, ◌∙◌}
use mathlib.Core.Bool.{true}
use mathlib.Core.List.{List, [], ◌∷◌, ◌++◌}
use Prim.Native.Nat.{ℕ, ◌-◌, ◌*◌, ◌^◌, ◌≤◌, ◌<◌}
use native.Mathlib.Omega.{arith}
use lib.Dec.{leb}
use lib.ListN.{length, take, drop}
use borrow.Author.Tests.{leb-true}
use Rattle.model.specs.Lists.{places, sum, all_at_most}
use Rattle.model.specs.Barrier.{Barrier, cache, most, counts}
use Rattle.model.specs.Heap.{Heap, held, in_use}
use Rattle.model.specs.Image.{Regions, regions, decode}
use Rattle.model.specs.Collector.{statistics}
use Rattle.theorems.specs.Fit.{FitBarrier, Image}
use Rattle.theorems.proofs.Lists.{and_left, and_right}
use Rattle.theorems.proofs.Image.{regions_of, encode-regions}
use Rattle.theorems.proofs.Regions.{lengths-sum}
use Rattle.theorems.proofs.Tiles.{cursor-le}
use Rattle.slots.proofs.Counts.{held-places}
use Rattle.image.specs.Laid.{Laid, regions_at}
use Rattle.image.specs.declared.places.Layout.{Layout}
use Rattle.layout.proofs.Tail.{lens-lent}
use Rattle.image.proofs.Bounds.{bounded}
use Rattle.fields.specs.Fields.{Reads, bar_of}
use Rattle.fields.proofs.Counts.{bar-fit}
use Rattle.report.specs.Numbers.{young_numbers, old_numbers, numbers}
use Rattle.report.specs.declared.Nursery.{Nursery}
use Rattle.report.specs.declared.Elder.{Elder}
use Rattle.report.specs.declared.Statistics.{Statistics}

-- a barrier's counts add up to a word

sum-small : (xs : List ℕ) → all_at_most most xs ≡ true → sum xs ≤ length xs * 4294967295
unfolding all_at_most sum most
sum-small [] e = omega arith
sum-small (x ∷ xs) e =
    let here : x ≤ 4294967295 = leb-true x most (and_left (leb x most) (all_at_most most xs) e) in
    omega (arith, sum-small xs (and_right (leb x most) (all_at_most most xs) e))

counts-fit : (b : Barrier) → FitBarrier b → sum (counts b) < 2 ^ 64
unfolding cache
counts-fit b f = omega (arith, sum-small (counts b) f.bounded, f.size)

module _ {w : List ℕ} where
  -- the counts of heap `own`'s barrier, and their sum
  module _ (own : ℕ) {part : List ℕ} (r : Reads (λ h. counts (bar_of own h)) w part) where
    pub counts_small : Image w (decode w) → sum part < 2 ^ 64
    counts_small i = rw (← r.reads _ i) (counts-fit (bar_of own (decode w)) (bar-fit i own))

    pub counts_sum : {k : ℕ} → k ≡ sum part → Reads (λ h. sum (counts (bar_of own h))) w k
    counts_sum e = record { reads = λ h i. rw (r.reads h i) (sym e) }

  -- the nursery's lengths
  module _ {l : Layout} (p : Laid w l) where
    young-lens : {h : Heap} → Image w h → take (l.slots - l.lens) (drop l.lens w) ≡ h.young.lens
    unfolding regions_at regions_of
    young-lens {h} i =
        let e : l.slots - l.lens ≡ l.n = omega (arith, p.slots) in
        rw e (ap (λ (r : Regions). r.lens) (sym p.parts ∙ ap regions i.is ∙ encode-regions h i.fit))

    pub young-held : {part : List ℕ} {r : ℕ} → part ≡ take (l.slots - l.lens) (drop l.lens w) → r ≡ length (places 0 part) → Reads (λ h. length (places 0 h.young.lens)) w r
    young-held e k = record { reads = λ h i. sym (k ∙ ap (λ (x : List ℕ). length (places 0 x)) (e ∙ young-lens i)) }

  pub cursor-within : {n cursor : ℕ} → Reads (λ h. h.size.n) w n → Reads (λ h. h.young.cursor) w cursor → Image w (decode w) → cursor ≤ n
  cursor-within n c i = omega (arith, n.reads _ i, c.reads _ i, cursor-le _ _ i.fit.young.cursor)

  pub young-taken : {n : ℕ} (y : Nursery) → Reads (λ h. h.size.n) w n → y.free ≡ n - y.cells
      → Reads (λ h. h.young.colls) w y.collections
      → Reads (λ h. length (places 0 h.young.lens)) w y.allocations
      → Reads (λ h. h.young.cursor) w y.cells
      → Reads (λ h. sum (counts h.young.bar)) w y.references
      → Reads (λ h. h.young.proms) w y.promotions
      → Reads (λ h. take 6 (statistics h)) w (young_numbers y)
  unfolding statistics young_numbers
  young-taken y n f colls lens cells refs proms = record { reads = λ h i. rw (n.reads h i, colls.reads h i, lens.reads h i, cells.reads h i, refs.reads h i, proms.reads h i, f) }

  -- the elder's lengths

  module _ {l : Layout} (p : Laid w l) where
    abbrev lens : List ℕ
    lens = take (l.young - l.slots) (drop l.slots w)

    used : {h : Heap} → Image w h → sum lens ≡ in_use h.old.slots
    unfolding in_use
    used {h} i = ap sum (lens-lent i p) ∙ lengths-sum h.old.slots

    pub used-fits : Image w (decode w) → sum lens < 2 ^ 64
    used-fits i = omega (arith, used i, i.fit.old.room, (bounded (decode w).size i.fit.sizes).c)

    pub old-taken : (e : Elder) → Reads (λ h. h.old.colls) w e.collections → e.allocations ≡ length (places 0 lens) → e.cells ≡ sum lens → Reads (λ h. sum (counts h.old.bar)) w e.references
        → Reads (λ h. take 4 (drop 6 (statistics h))) w (old_numbers e)
    unfolding statistics old_numbers
    old-taken e colls a c refs = record {
      reads = λ h i.
          let holds : held h.old.slots ≡ e.allocations = sym (a ∙ ap (λ (x : List ℕ). length (places 0 x)) (lens-lent i p) ∙ held-places h.old.slots 0) in
          let cells : in_use h.old.slots ≡ e.cells = sym (c ∙ used i) in
          rw (colls.reads h i, holds, cells, refs.reads h i);
    }

  -- together
  pub all-taken : (s : Statistics) → s.leak ≡ 0 → Reads (λ h. take 6 (statistics h)) w (young_numbers s.nursery) → Reads (λ h. take 4 (drop 6 (statistics h))) w (old_numbers s.elder) → Reads (λ h. statistics h) w (numbers s)
  unfolding statistics young_numbers old_numbers numbers
  all-taken s z y e = record {
    reads = λ h i.
        ap (λ (l : List ℕ). l ++ take 4 (drop 6 (statistics h)) ++ 0 ∷ []) (y.reads h i)
        ∙ ap (λ (l : List ℕ). young_numbers s.nursery ++ l ++ 0 ∷ []) (e.reads h i)
        ∙ ap (λ (k : ℕ). young_numbers s.nursery ++ old_numbers s.elder ++ k ∷ []) (sym z);
  }
