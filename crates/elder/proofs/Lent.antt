-- The elder's lengths and cells, as they are lent to be read: how many allocations it holds, its members, what it drops.
use mathlib.Core.Path.{◌≡◌, sym, ap, ◌∙◌}
use mathlib.Core.List.{List}
use Prim.Native.Nat.{ℕ, ◌+◌, ◌-◌, ◌*◌, ◌/◌, ◌≤◌}
use native.Mathlib.Omega.{arith}
use lib.Dec.{leb}
use lib.ListN.{length, take, drop, length-map}
use lib.Seq.{drop-drop}
use Rattle.model.specs.Lists.{places, sum}
use Rattle.model.specs.Res.{Res}
use Rattle.model.specs.Records.{Ptr, cells_of}
use Rattle.model.specs.Barrier.{Barrier}
use Rattle.model.specs.Heap.{Elder, Heap, held, in_use}
use Rattle.model.specs.Image.{decode, cut}
use Rattle.model.specs.Elder.{old_members, count_dropped}
use Rattle.model.specs.Calls.{cells_in}
use Rattle.theorems.specs.Fit.{Image}
use Rattle.theorems.proofs.Members.{old-few}
use Rattle.theorems.proofs.Regions.{lengths-sum}
use Rattle.trace.specs.Words.{members}
use Rattle.trace.proofs.Entries.{length-members}
use Rattle.trace.proofs.Places.{in-length}
use Rattle.slots.specs.Slots.{slots_of, slots_at}
use Rattle.slots.proofs.Counts.{held-places, packed-sum}
use Rattle.slots.proofs.Parts.{lent, lent_is}
use Rattle.image.specs.Laid.{Laid}
use Rattle.image.specs.declared.places.Layout.{Layout}
use Rattle.layout.proofs.Tail.{slots-at-is, lens-lent, parts-formed}
use Rattle.fields.specs.Fields.{Reads}
use Rattle.elder.specs.Steps.{Listed}

abbrev lens_in : List ℕ → Layout → List ℕ
lens_in w l = take (l.young - l.slots) (drop l.slots w)

abbrev old_cells_in : List ℕ → Layout → List ℕ
old_cells_in w l = lent l.old w

module _ {w : List ℕ} {h : Heap} (i : Image w h) {l : Layout} (p : Laid w l) where
  slots_lent : slots_of (lens_in w l) (old_cells_in w l) ≡ h.old.slots
  unfolding slots_at
  slots_lent =
      let a : l.young - l.slots ≡ l.s = omega (arith, p.young) in
      let b : l.old ≡ l.slots + (l.old - l.slots) = omega (arith, p.young, p.old) in
      let cells : old_cells_in w l ≡ drop (l.old - l.slots) (drop l.slots w) = lent_is w l.old (omega (arith, p.end)) ∙ ap (λ (k : ℕ). drop k w) b ∙ sym (drop-drop (l.old - l.slots) l.slots w) in
      let lens : lens_in w l ≡ take l.s (drop l.slots w) = rw a in
      rw (lens, cells) (slots-at-is i p)

  lens-count : length (lens_in w l) ≡ h.size.s
  lens-count = ap length (lens-lent i p) ∙ length-map h.old.slots length ∙ i.fit.old.slots

  lens-sum : sum (lens_in w l) ≤ h.size.c
  unfolding in_use
  lens-sum = omega (arith, ap sum (lens-lent i p), lengths-sum h.old.slots, i.fit.old.room)

-- `is_full`
pub full_is : {w : List ℕ} {l : Layout} → Laid w l → {t n : ℕ} → Reads (λ h. h.size.t) w t → n ≡ length (places 0 (lens_in w l)) → Reads (λ h. leb h.size.t (held h.old.slots)) w (leb t n)
full_is p r e = record { reads = λ h i. rw (r.reads h i, e, lens-lent i p, held-places h.old.slots 0) }

-- `members`

module _ {w : List ℕ} {l : Layout} (p : Laid w l) (i : Image w (decode w)) (roots : List ℕ) {n : ℕ} (room : 3 * (length roots / 3 + (decode w).size.s + (decode w).size.c) ≤ n) where
  pub trace-room : (sum (lens_in w l) * 3 ≤ length (old_cells_in w l)) × (3 * (length roots / 3 + (length (lens_in w l) + sum (lens_in w l))) ≤ n)
  trace-room = (omega (arith, packed-sum (parts-formed i p), (parts-formed i p).fits), omega (arith, lens-count i p, lens-sum i p))

  pub listed : (ms : List ℕ) {r : ℕ} {list : List ℕ} → length list ≡ n
      → ((e : Elder) → e.slots ≡ cut (lens_in w l) (cells_of (sum (lens_in w l)) (old_cells_in w l)) → members r list ≡ old_members e (cells_in roots) ms)
      → Listed (cells_in roots) ms w r list
  unfolding slots_of
  listed ms {r} {list} k t =
      let are : (h : Heap) → Image w h → members r list ≡ old_members h.old (cells_in roots) ms =
      λ h j. t h.old (sym (slots_lent j p)) in
      record {
        are = are;
        fits = omega (arith, k, length-members r list, ap length (are (decode w) i), old-few (decode w).old (cells_in roots) ms, in-length roots, i.fit.old.slots, i.fit.old.room);
      }

-- `count_dropped`
pub dropped-read : {w : List ℕ} {l : Layout} → Laid w l → (ps : List Ptr) {b : Barrier} {m : Res Barrier} → Reads (λ h. h.old.bar) w b → m ≡ count_dropped ps 0 (slots_of (lens_in w l) (old_cells_in w l)) b
    → Reads (λ h. count_dropped ps 0 h.old.slots h.old.bar) w m
dropped-read p ps r e = record { reads = λ h i. rw (r.reads h i, ← slots_lent i p) (sym e) }
