-- Demand 3 holds of every list of calls from a fresh heap.
use mathlib.Core.Path.{◌≡◌, refl, sym, ap, subst, ◌∙◌}
use mathlib.Core.Bool.{Bool, true, false, not, ◌&&◌}
use mathlib.Core.Logic.{⊎_map}
use mathlib.Core.List.Memᴰ
use mathlib.Core.List.{List, [], ◌∷◌, map}
use Prim.Native.Nat.{ℕ, ◌+◌, ◌%◌, ◌≤◌, zero-le}
use native.Mathlib.Omega.{arith}
use lib.Dec.{eqb}
use lib.ListN.{length}
use Rattle.model.specs.Lists.{cons_if, keep_if, flat, sum}
use Rattle.model.specs.Res.{Res, ok, refuse, ◌>>=◌}
use Rattle.model.specs.Records.{whole, cell_words, Cell, plain, ref, whole_cells}
use Rattle.model.specs.Barrier.{cache}
use Rattle.model.specs.Heap.{Elder, Sizes, Heap, in_bounds, fresh}
use Rattle.model.specs.Image.{encode, decode, sized, formed}
use Rattle.model.specs.Nursery.{bump}
use Rattle.model.specs.Elder.{sweeps_of}
use Rattle.model.specs.Collector.{Allocation, four_counts}
use Rattle.model.specs.Calls.{cells_in, opened, alloc_on, Outcome, allocated, left, Call, allocs, reads, writes, call}
use Rattle.model.specs.Demand.{Collected, CollectedCall, StayedCall, Claim, History, nothing, next, points_at, Counted, AllClaims, Demand, Demand3}
use Rattle.theorems.specs.Holds.{Holds, such, none}
use Rattle.theorems.specs.Kept.{events, run}
use Rattle.theorems.proofs.Res.{holds_at}
use Rattle.theorems.proofs.Lists.{flat-empty}
use borrow.Author.Tests.{eqb-true}
use Rattle.theorems.proofs.Barrier.{bit, crosses, tally}
use Rattle.theorems.proofs.Contents.{valid-all}
use Rattle.theorems.proofs.Elder.{Good}
use Rattle.theorems.proofs.Collect.{GoodHeap, good-heap-fit, Told}
use Rattle.theorems.proofs.Calls.{stayed, Kind, Left}
use Rattle.theorems.proofs.Cells.{words-in, whole_back}
use Rattle.theorems.proofs.Image.{decode-encode, fresh-fit}
use Rattle.theorems.proofs.Kept.{Imaged, imaged, sizes-of, refused-ok, alloc_on_lem, write-on}

-- a cell that points into the nursery is counted

points-bit : (k : ℕ) (c : Cell) → bit (points_at k c) ≤ bit (crosses k c)
unfolding points_at crosses
points-bit k (plain a v) = zero-le
points-bit k (ref p) = go (eqb p.heap 0) refl
  where
    go : (t : Bool) → eqb p.heap 0 ≡ t → bit (t && eqb (p.base % 256) k) ≤ bit (not (eqb p.heap 1) && eqb (p.base % 256) k)
    go true e = rw (eqb-true p.heap 0 e) (omega arith)
    go false e = zero-le

points-tally : (k : ℕ) (l : List Cell) → length (keep_if (points_at k) l) ≤ tally k l
unfolding keep_if tally
points-tally k [] = zero-le
points-tally k (c ∷ l) = go (points_at k c) (points-bit k c) (points-tally k l)
  where
    go : (t : Bool) → bit t ≤ bit (crosses k c) → length (keep_if (points_at k) l) ≤ tally k l → length (cons_if t c (keep_if (points_at k) l)) ≤ bit (crosses k c) + tally k l
    go true a b = omega arith
    go false a b = omega arith

counted : (z : Sizes) (e : Elder) → Good (Unit {0}) z e → Counted e
unfolding cache
counted z e g k h = omega (arith, points-tally k (flat e.slots), g.fits.covers tt k h)

-- an image as a list of calls leaves it
record Reached (z : Sizes) (w : List ℕ) : Type 0 where
  imaged : Imaged z w
  good : GoodHeap (Unit {0}) (decode w)

reached : (z : Sizes) (h : Heap) → h.size ≡ z → GoodHeap (Unit {0}) h → Reached z (encode h)
reached z h e g = record {
  imaged = subst (λ (x : Sizes). Imaged x (encode h)) e (imaged h (good-heap-fit g));
  good = rw (decode-encode h (good-heap-fit g)) g;
}

fresh-reached : (z : Sizes) → in_bounds z ≡ true → Reached z (encode (fresh z))
unfolding fresh tally
fresh-reached z e =
    let f = fresh-fit z e in
    reached z (fresh z) refl (record {
      sizes = f.sizes;
      young = f.young;
      old = record {
        colls = f.old.colls;
        fits = record { fit = f.old.bar; covers = λ _ k l. rw (flat-empty z.s) zero-le };
        slots = f.old.slots;
        room = f.old.room;
        valid = rw (flat-empty z.s) (λ c m. absurd (Memᴰ.not-nil m));
      };
    })

module _ (z : Sizes) (w : List ℕ) (at : Reached z w) where
  good-once-asked : sized w ≡ true → formed w ≡ true → GoodHeap (Unit {0}) (decode w)
  good-once-asked s f = at.good

  size-kept : {x : Sizes} → x ≡ (decode w).size → x ≡ z
  size-kept e = e ∙ sizes-of w ∙ at.imaged.sizes

  after-alloc : (roots : List ℕ) (a : ℕ) {m : Res Allocation} → Holds (λ r. Told (Unit {0}) (decode w) (cells_in roots) r × (Unit {0} → Kind (decode w) (cells_in roots) a r) × (whole_cells roots ≡ true)) m → Reached z (allocated w roots m).image
  unfolding allocated
  after-alloc roots a none = at
  after-alloc roots a (such {a = r} t) = reached z r.heap (size-kept t.0.same_size) t.0.good

  after_write : {m : Res Heap} → Holds (Left (Unit {0}) (decode w)) m → Reached z (left w m).image
  unfolding left
  after_write none = at
  after_write (such {a = h} t) = reached z h (size-kept t.same_size) t.good

  after : (c : Call) → Reached z (call c w).image
  unfolding call
  after (allocs roots scratch a) = after-alloc roots a (alloc_on_lem (Unit {0}) w good-once-asked roots scratch a)
  after (reads p) = at
  after (writes p v) = after_write (write-on (Unit {0}) w good-once-asked p v)

  -- an answered alloc
  module _ (roots : List ℕ) (scratch a : ℕ) (r : Allocation) (e : (opened w >>= λ h. alloc_on h roots scratch a) ≡ ok r) where
    is-told : Told (Unit {0}) (decode w) (cells_in roots) r × (Unit {0} → Kind (decode w) (cells_in roots) a r) × (whole_cells roots ≡ true)
    is-told = holds_at (alloc_on_lem (Unit {0}) w good-once-asked roots scratch a) e

    image-is : decode (encode r.heap) ≡ r.heap
    image-is = decode-encode r.heap (good-heap-fit is-told.0.good)

    numbers : List ℕ
    numbers = r.ptr.heap ∷ r.ptr.base ∷ r.ptr.off ∷ r.collections ∷ length r.members ∷ length (sweeps_of r.steps) ∷ sum (map length (sweeps_of r.steps)) ∷ []

    collected-call : (l : List ℕ) → numbers ≡ l → r.collections ≡ 1 → Collected (decode w) (cells_in roots) a r → CollectedCall w roots scratch a (allocated w roots (ok r)) l
    unfolding allocated numbers
    collected-call l f one did = record {
      result = r;
      is = e;
      did = did;
      image = image-is;
      roots_after = words-in r.roots (valid-all r.roots is-told.0.roots-valid);
      answer = sym f ∙ ap (λ (n : ℕ). r.ptr.heap ∷ r.ptr.base ∷ r.ptr.off ∷ n ∷ length r.members ∷ length (sweeps_of r.steps) ∷ sum (map length (sweeps_of r.steps)) ∷ []) one;
    }

    stayed-call : (l : List ℕ) → numbers ≡ l → r ≡ stayed (decode w) (cells_in roots) a → StayedCall w roots a (allocated w roots (ok r)) l
    unfolding allocated numbers stayed bump whole sweeps_of sum
    stayed-call l f s = record {
      answer = sym f ∙ ap numbers_of s;
      cursor = now (λ (h : Heap). h.young.cursor);
      lens = now (λ (h : Heap). h.young.lens);
      cells = now (λ (h : Heap). h.young.cells);
      collections = now (λ (h : Heap). h.young.colls);
      promotions = now (λ (h : Heap). h.young.proms);
      barrier = now (λ (h : Heap). h.young.bar);
      elder = now (λ (h : Heap). h.old);
      roots_kept = ap (λ (x : Allocation). cell_words x.roots) s ∙ whole_back roots is-told.2;
    }
      where
        now : {A : Type 0} (f : Heap → A) → f (decode (encode r.heap)) ≡ f (stayed (decode w) (cells_in roots) a).heap
        now f = ap f image-is ∙ ap (λ (x : Allocation). f x.heap) s

        numbers_of : Allocation → List ℕ
        numbers_of x = x.ptr.heap ∷ x.ptr.base ∷ x.ptr.off ∷ x.collections ∷ length x.members ∷ length (sweeps_of x.steps) ∷ sum (map length (sweeps_of x.steps)) ∷ []

  claim-alloc : (roots : List ℕ) (scratch a : ℕ) (m : Res Allocation) → (opened w >>= λ h. alloc_on h roots scratch a) ≡ m → Claim w (allocs roots scratch a) (allocated w roots m)
  unfolding allocated four_counts numbers
  claim-alloc roots scratch a (refuse q) e l f = absurd (refused-ok f)
  claim-alloc roots scratch a (ok r) e l f = ⊎_map (λ k. (k.0, stayed-call roots scratch a r e l (cc) k.1)) (λ k. (k.0, collected-call roots scratch a r e l (cc) k.1 k.2)) ((is-told roots scratch a r e).1 tt)

  claim : (c : Call) → Claim w c (call c w)
  unfolding call
  claim (allocs roots scratch a) = claim-alloc roots scratch a (opened w >>= λ h. alloc_on h roots scratch a) refl
  claim (reads p) = tt
  claim (writes p v) = tt

-- over the list

record Done (z : Sizes) (w : List ℕ) (l : List (Call × Outcome)) (v : List ℕ) : Type 0 where
  end : Reached z v
  claims : AllClaims w l

along : (z : Sizes) {w v : List ℕ} {l : List (Call × Outcome)} → Reached z w → History w l v → Done z w l v
along z at nothing = record { end = at; claims = tt }
along z {w} at (next {v = v} {l = l} c o e h) =
    let d = along z (subst (λ (x : Outcome). Reached z x.image) (sym e) (after z w at c)) h in
    record { end = d.end; claims = (subst (λ (x : Outcome). Claim w c x) (sym e) (claim z w at c), d.claims) }

pub demand-3 : Demand3
demand-3 z b l v h =
    let d = along z (fresh-reached z b) h in
    record {
      counts = counted (decode v).size (decode v).old d.end.good.old;
      allocs_claimed = d.claims;
      still_sized = d.end.imaged.is-sized;
      still_formed = d.end.imaged.is-formed;
      same_sizes = d.end.imaged.sizes;
    }

-- and of every list that is run

history : (cs : List Call) (w : List ℕ) → History w (events cs w) (run cs w)
unfolding events run
history [] w = nothing
history (c ∷ cs) w = next c (call c w) refl (history cs (call c w).image)

pub demand-3-run : (z : Sizes) → in_bounds z ≡ true → (cs : List Call) → Demand z (events cs (encode (fresh z))) (run cs (encode (fresh z)))
demand-3-run z b cs = demand-3 z b (events cs (encode (fresh z))) (run cs (encode (fresh z))) (history cs (encode (fresh z)))
