-- Calls on any words: what a refusal and an answer leave.
use mathlib.Core.Path.{◌≡◌, refl, sym, ap, ◌∙◌}
use mathlib.Core.Bool.{true, ◌&&◌, true≢false}
use mathlib.Core.List.{List, [], ◌∷◌}
use Prim.Native.Nat.{ℕ, ◌*◌, ◌/◌}
use native.Mathlib.Omega.{arith}
use lib.Dec.{leb, eqb}
use lib.ListN.{length, get_or}
use Rattle.model.specs.Res.{Res, ok, refuse, ◌>>=◌}
use Rattle.model.specs.Records.{Ptr, cell_of, valid, spare_zero, valid_words, whole_cells}
use Rattle.model.specs.Heap.{Sizes, Heap, in_bounds, fresh}
use Rattle.model.specs.Image.{sizes_of, encode, decode, sized, formed}
use Rattle.model.specs.Collector.{Allocation, report}
use Rattle.model.specs.Calls.{cells_in, roots_good, value_good, scratch_length, opened, alloc_on, read_on, write_on, allocated, left, reported, Call, allocs, reads, writes, call, report_call}
use Rattle.theorems.specs.Holds.{Holds, such, none}
use Rattle.theorems.specs.Fit.{Fit}
use Rattle.theorems.specs.Kept.{Kept, roots_of}
use Rattle.theorems.proofs.Res.{bind, asked, weaken, holds_at}
use Rattle.theorems.proofs.Lists.{and_left, and_right}
use Rattle.theorems.proofs.Cells.{words-length, whole_words, whole_length, whole-valid}
use Rattle.theorems.proofs.Contents.{valid-all, all_valid_lem}
use Rattle.theorems.proofs.Image.{decode-encode, encode-sized, encode-formed, decode-fit, fresh-fit}
use Rattle.theorems.proofs.Collect.{GoodHeap, good-heap-fit, Told}
use Rattle.theorems.proofs.Calls.{Kind, alloc_told, Left, write-left, report-left}

-- a fit heap, with nothing known of its counts
pub fit-good : {h : Heap} → Fit h → GoodHeap ⊥ h
fit-good f = record {
  sizes = f.sizes;
  young = f.young;
  old = record { colls = f.old.colls; fits = record { fit = f.old.bar; covers = λ b. absurd b }; slots = f.old.slots; room = f.old.room; valid = all_valid_lem _ f.old.valid };
}

-- the image of a good heap
pub record Imaged (z : Sizes) (w : List ℕ) : Type 0 where
  pub is-sized : sized w ≡ true
  pub is-formed : formed w ≡ true
  pub sizes : sizes_of w ≡ z

pub sizes-of : (w : List ℕ) → (decode w).size ≡ sizes_of w
unfolding decode
sizes-of w = refl

pub imaged : (h : Heap) → Fit h → Imaged h.size (encode h)
imaged h f = record {
  is-sized = encode-sized h f;
  is-formed = encode-formed h f;
  sizes = sym (sizes-of (encode h)) ∙ ap (λ (g : Heap). g.size) (decode-encode h f);
}

-- one valid cell
value-valid : (x : List ℕ) → whole_cells x ≡ true → eqb (length x) 3 ≡ true → valid (cell_of (get_or x 0 0) (get_or x 1 0) (get_or x 2 0)) ≡ true
unfolding whole_cells valid_words
value-valid [] e l = absurd (true≢false (sym l))
value-valid (a ∷ []) e l = absurd (true≢false (sym l))
value-valid (a ∷ b ∷ []) e l = absurd (true≢false (sym l))
value-valid (a ∷ b ∷ o ∷ x) e l =
    and_left (valid (cell_of a b o)) (spare_zero (cell_of a b o) o) (and_left (valid (cell_of a b o) && spare_zero (cell_of a b o) o) (whole_cells x) e)

-- the calls on a good heap
module _ (M : Type 0) (h : Heap) where
  alloc-from : (roots : List ℕ) (scratch a : ℕ) → GoodHeap M h → Holds (λ r. Told M h (cells_in roots) r × (M → Kind h (cells_in roots) a r) × (whole_cells roots ≡ true)) (alloc_on h roots scratch a)
  unfolding alloc_on roots_good
  alloc-from roots scratch a g =
      asked 3 (whole_cells roots && leb (length roots) (3 * 4096)) _ (λ r.
      asked 4 (leb (scratch_length h.size (length roots / 3)) scratch) _ (λ _.
      let v = and_left (whole_cells roots) (leb (length roots) (3 * 4096)) r in
      weaken (alloc_told M h (cells_in roots) a g (all_valid_lem (cells_in roots) (whole-valid roots v))) (λ x t. (t.0, t.1, v))))

  write-from : (p : Ptr) (value : List ℕ) → GoodHeap M h → Holds (Left M h) (write_on h p value)
  unfolding write_on value_good
  write-from p value g =
      asked 3 (whole_cells value && eqb (length value) 3) _ (λ v.
      write-left M h p (cell_of (get_or value 0 0) (get_or value 1 0) (get_or value 2 0)) (value-valid value (and_left (whole_cells value) (eqb (length value) 3) v) (and_right (whole_cells value) (eqb (length value) 3) v)) g)

opened-is : (w : List ℕ) → Holds (λ h. (h ≡ decode w) × (sized w ≡ true) × (formed w ≡ true)) (opened w)
unfolding opened
opened-is w = asked 1 (sized w) _ (λ s. asked 2 (formed w) _ (λ f. such (refl, s, f)))

-- the calls on words w, whose heap is good once 1 and 2 got their yes
module _ (M : Type 0) (w : List ℕ) (good : sized w ≡ true → formed w ≡ true → GoodHeap M (decode w)) where
  pub alloc_on_lem : (roots : List ℕ) (scratch a : ℕ) → Holds (λ r. Told M (decode w) (cells_in roots) r × (M → Kind (decode w) (cells_in roots) a r) × (whole_cells roots ≡ true)) (opened w >>= λ h. alloc_on h roots scratch a)
  alloc_on_lem roots scratch a = bind (λ h. alloc_on h roots scratch a) (opened-is w) (λ h o. on h o.0 (good o.1 o.2))
    where
      here : GoodHeap M (decode w) → Holds (λ r. Told M (decode w) (cells_in roots) r × (M → Kind (decode w) (cells_in roots) a r) × (whole_cells roots ≡ true)) (alloc_on (decode w) roots scratch a)
      here g = alloc-from M (decode w) roots scratch a g

      on : (h : Heap) → h ≡ decode w → GoodHeap M (decode w) → Holds (λ r. Told M (decode w) (cells_in roots) r × (M → Kind (decode w) (cells_in roots) a r) × (whole_cells roots ≡ true)) (alloc_on h roots scratch a)
      on h e g = rw e (here g)

  pub write-on : (p : Ptr) (value : List ℕ) → Holds (Left M (decode w)) (opened w >>= λ h. write_on h p value)
  write-on p value = bind (λ h. write_on h p value) (opened-is w) (λ h o. on h o.0 (good o.1 o.2))
    where
      on : (h : Heap) → h ≡ decode w → GoodHeap M (decode w) → Holds (Left M (decode w)) (write_on h p value)
      on h e g = rw e (write-from M (decode w) p value g)

  pub report-on : Holds (λ (r : List ℕ × Heap). Left M (decode w) r.1) (opened w >>= report)
  report-on = bind report (opened-is w) (λ h o. on h o.0 (good o.1 o.2))
    where
      on : (h : Heap) → h ≡ decode w → GoodHeap M (decode w) → Holds (λ (r : List ℕ × Heap). Left M (decode w) r.1) (report h)
      on h e g = rw e (report-left M (decode w) g)

-- what is left

decoded-fit : (w : List ℕ) → sized w ≡ true → formed w ≡ true → GoodHeap ⊥ (decode w)
decoded-fit w s f = fit-good (decode-fit w s f)

pub refused-ok : {A : Type 0} {q : ℕ} {a : A} → refuse q ≡ ok a → ⊥
refused-ok e = let z : ◌≡◌ {A = ℕ} 0 1 = cc in omega arith

same_sizes : (w : List ℕ) {h : Heap} → h.size ≡ (decode w).size → Fit h → sizes_of (encode h) ≡ sizes_of w
same_sizes w {h} e f = (imaged h f).sizes ∙ e ∙ sizes-of w

alloc-kept : (w roots : List ℕ) {m : Res Allocation} (a : ℕ) → Holds (λ r. Told ⊥ (decode w) (cells_in roots) r × (⊥ → Kind (decode w) (cells_in roots) a r) × (whole_cells roots ≡ true)) m → Kept w roots (allocated w roots m)
unfolding allocated
alloc-kept w roots a none = record { refused = λ q e. (refl, refl); answered = λ l e. absurd (refused-ok e) }
alloc-kept w roots a (such {a = r} t) =
    let f = good-heap-fit t.0.good in
    record {
      refused = λ q e. absurd (refused-ok (sym e));
      answered = λ l e. (
        (imaged r.heap f).is-sized,
        (imaged r.heap f).is-formed,
        same_sizes w t.0.same_size f,
        whole_words r.roots (valid-all r.roots t.0.roots-valid),
        words-length r.roots ∙ ap (λ (n : ℕ). n * 3) t.0.roots-length ∙ whole_length roots t.2,
      );
    }

heap-kept : (w : List ℕ) {m : Res Heap} → Holds (Left ⊥ (decode w)) m → Kept w [] (left w m)
unfolding left whole_cells
heap-kept w none = record { refused = λ q e. (refl, refl); answered = λ l e. absurd (refused-ok e) }
heap-kept w (such {a = h} t) =
    let f = good-heap-fit t.good in
    record { refused = λ q e. absurd (refused-ok (sym e)); answered = λ l e. ((imaged h f).is-sized, (imaged h f).is-formed, same_sizes w t.same_size f, refl, refl) }

-- a read leaves the image, which was formed if it was answered
read-sized : (w : List ℕ) (p : Ptr) → Holds (λ _. (sized w ≡ true) × (formed w ≡ true)) (opened w >>= λ h. read_on h p)
read-sized w p = bind (λ h. read_on h p) (opened-is w) (λ h o. all (o.1, o.2) (read_on h p))
  where
    all : (sized w ≡ true) × (formed w ≡ true) → (m : Res (List ℕ)) → Holds (λ _. (sized w ≡ true) × (formed w ≡ true)) m
    all f (ok l) = such f
    all f (refuse q) = none

read_kept : (w : List ℕ) → (sized w ≡ true) × (formed w ≡ true) → (sized w ≡ true) × (formed w ≡ true) × (sizes_of w ≡ sizes_of w) × (whole_cells [] ≡ true) × (length {A = ℕ} [] ≡ length {A = ℕ} [])
unfolding whole_cells
read_kept w f = (f.0, f.1, refl, refl, refl)

pub calls-kept : (c : Call) (w : List ℕ) → Kept w (roots_of c) (call c w)
unfolding call
calls-kept (allocs roots scratch a) w = alloc-kept w roots a (alloc_on_lem ⊥ w (decoded-fit w) roots scratch a)
calls-kept (reads p) w = record { refused = λ q e. (refl, refl); answered = λ l e. read_kept w (holds_at (read-sized w p) e) }
calls-kept (writes p v) w = heap-kept w (write-on ⊥ w (decoded-fit w) p v)

pub report-kept : (w : List ℕ) → Kept w [] (report_call w)
unfolding report_call reported whole_cells
report-kept w = go (report-on ⊥ w (decoded-fit w))
  where
    go : {m : Res (List ℕ × Heap)} → Holds (λ r. Left ⊥ (decode w) r.1) m → Kept w [] (reported w m)
    go none = record { refused = λ q e. (refl, refl); answered = λ l e. absurd (refused-ok e) }
    go (such {a = r} t) =
        let f = good-heap-fit t.good in
        record { refused = λ q e. absurd (refused-ok (sym e)); answered = λ l e. ((imaged r.1 f).is-sized, (imaged r.1 f).is-formed, same_sizes w t.same_size f, refl, refl) }

-- a fresh heap is answered exactly where the sizes are in bounds and the length is theirs, and is formed
pub new-image : (z : Sizes) → in_bounds z ≡ true → Imaged z (encode (fresh z))
unfolding fresh
new-image z e = imaged (fresh z) (fresh-fit z e)
