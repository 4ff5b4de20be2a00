-- The image after each operation is that of the heap which the model's step leaves.
use mathlib.Core.Path.{◌≡◌, refl, sym, ap, ◌∙◌}
use mathlib.Core.Bool.{Bool, true, false, true≢false}
use mathlib.Core.List.{List, [], ◌∷◌, append-nil}
use Prim.Native.Nat.{ℕ, zero, suc, ◌+◌, ◌-◌, ◌*◌, ◌≤◌, ◌<◌}
use native.Mathlib.Nat.{not-suc-le-zero, le_of_suc-le-suc, sub-zero}
use native.Mathlib.Numerals.{add-one}
use native.Mathlib.Omega.{arith}
use lib.ListN.{length, get_or, take, drop, set, replicate, length-set, length-replicate}
use lib.Seq.{paste}
use borrow.Rule.Slice.PartMut.{put_mid, set_mid_at}
use Rattle.model.specs.Lists.{flat}
use Rattle.model.specs.Records.{Cell, blank, cell_words, whole_cells}
use Rattle.model.specs.Barrier.{Barrier, absent, present, cache, most, counts}
use Rattle.model.specs.Heap.{Nursery, Elder, Heap, fresh}
use Rattle.model.specs.Image.{flag, barrier, encode, decode, flagged}
use Rattle.model.specs.Nursery.{bump, emptied}
use Rattle.theorems.specs.Fit.{FitBarrier, FitNursery, FitElder, Fit, Image}
use Rattle.theorems.specs.Does.{with_young, with_old}
use Rattle.theorems.proofs.Cells.{words-cons, words-length, cell-pasted, one_cell_lem}
use Rattle.theorems.proofs.Contents.{valid-set}
use Rattle.theorems.proofs.Tiles.{zeros-tiled}
use Rattle.theorems.proofs.Barrier.{absent-fit}
use Rattle.theorems.proofs.Regions.{barrier-back, fit-flagged}
use Rattle.theorems.proofs.Image.{fresh-fit, image-decode}
use Rattle.theorems.proofs.Parts.{header, parts_of, encode-parts}
use Rattle.theorems.proofs.Collect.{bump-fit}
use Rattle.words.specs.Words.{padded}
use Rattle.value.specs.declared.Words.{Words}
use Rattle.value.specs.Value.{words_at}
use Rattle.image.specs.Places.{size_n, young_counts_at, old_counts_at, lengths_at, slot_lengths_at}
use Rattle.fields.specs.Fields.{Reads, Turns, on_young, on_old, with_bar, with_old_bar, bar_of, on_bar, is_present, with_cell, restarted, collected_once, cell_in, words_of}
use Rattle.image.specs.Laid.{Laid}
use Rattle.image.specs.declared.places.Layout.{Layout}
use Rattle.fields.proofs.Parts.{decoded, sized-in, n-is, lens-at, slots-at, young-counts-put, old-counts-put, lengths-put, young-cells-put, lengths, young-cells}

-- one operation after the other

pub next-image : {f : Heap → Heap} {w v : List ℕ} → Turns f w v → Image w (decode w) → Image v (decode v)
next-image t i = decoded (t.turns _ i)

-- a generation that is replaced by one that fits

young-fit : {h : Heap} (y : Nursery) → Fit h → FitNursery h.size y → Fit (with_young y h)
unfolding with_young
young-fit y g f = record { sizes = g.sizes; young = f; old = g.old }

old-fit : {h : Heap} (e : Elder) → Fit h → FitElder h.size e → Fit (with_old e h)
unfolding with_old
old-fit e g f = record { sizes = g.sizes; young = g.young; old = f }

-- the barriers

module _ {f : ℕ} {cs : List ℕ} {b : Barrier} (e : f ≡ flag b) (q : cs ≡ counts b) where
  pub loads : FitBarrier b → (flagged f cs ≡ true) × (length cs ≡ cache)
  loads g = rw (e, q) (fit-flagged b g, g.size)

  pub loaded : {r : Barrier} → r ≡ barrier f cs → b ≡ r
  loaded r = sym (r ∙ rw (e, q) (barrier-back b))

module _ {w : List ℕ} {h : Heap} (i : Image w h) where
  pub young-flag : get_or w 8 0 ≡ flag h.young.bar
  unfolding encode
  young-flag = ap (λ (l : List ℕ). get_or l 8 0) i.is

  pub old-flag : get_or w 9 0 ≡ flag h.old.bar
  unfolding encode
  old-flag = ap (λ (l : List ℕ). get_or l 9 0) i.is

module _ {w ys : List ℕ} {f : ℕ} {b : Barrier} (g : FitBarrier b) (e : ys ≡ counts b) (q : f ≡ flag b) where
  pub young-put : Turns (on_young (with_bar b)) w (set (put_mid young_counts_at 256 w ys) 8 f)
  unfolding parts_of header flat with_young with_bar
  young-put = record {
    turns = λ h i.
        let y = i.fit.young in
        record {
          is = rw (young-counts-put i ys, e, q) (sym (encode-parts (on_young (with_bar b) h)));
          fit = young-fit _ i.fit (record { cursor = y.cursor; colls = y.colls; proms = y.proms; bar = g; lens = y.lens; tiled = y.tiled; cells = y.cells; valid = y.valid });
        };
  }

  pub old-put : Turns (on_old (with_old_bar b)) w (set (put_mid old_counts_at 256 w ys) 9 f)
  unfolding parts_of header flat with_old with_old_bar
  old-put = record {
    turns = λ h i.
        let o = i.fit.old in
        record {
          is = rw (old-counts-put i ys, e, q) (sym (encode-parts (on_old (with_old_bar b) h)));
          fit = old-fit _ i.fit (record { colls = o.colls; bar = g; slots = o.slots; room = o.room; valid = o.valid });
        };
  }

-- the nursery's cells

cell-words-at : (cs : List Cell) (i : ℕ) → i < length cs
    → get_or (cell_words cs) (3 * i) 0 ∷ get_or (cell_words cs) (3 * i + 1) 0 ∷ get_or (cell_words cs) (3 * i + 2) 0 ∷ [] ≡ cell_words (get_or cs i blank ∷ [])
unfolding cell_words
cell-words-at [] i h = absurd (not-suc-le-zero h)
cell-words-at (c ∷ cs) zero h = rw (words-cons c cs, words-cons c [])
cell-words-at (c ∷ cs) (suc i) h =
    let e₀ : 3 * suc i ≡ suc (suc (suc (3 * i))) = omega arith in
    let e₁ : suc (suc (suc (3 * i))) + 1 ≡ suc (suc (suc (3 * i + 1))) = omega arith in
    let e₂ : suc (suc (suc (3 * i))) + 2 ≡ suc (suc (suc (3 * i + 2))) = omega arith in
    rw (e₀, e₁, e₂, words-cons c cs) (cell-words-at cs i (le_of_suc-le-suc h))

module _ {w : List ℕ} {l : Layout} (p : Laid w l) (i : ℕ) (small : i < (decode w).size.n) where
  below : {h : Heap} → Image w h → i < length h.young.cells
  below g = omega (arith, g.fit.young.cells, ap (λ (h : Heap). h.size.n) (image-decode g))

  pub cell_room : Image w (decode w) → i * 3 + 3 ≤ length (take (l.old - l.young) (drop l.young w))
  cell_room g = rw (young-cells g p) (omega (arith, words-length (decode w).young.cells, below g))

  pub cell-read : (r : Words) → r ≡ words_at (take (l.old - l.young) (drop l.young w)) (3 * i) → Reads (λ h. cell_words (get_or h.young.cells i blank ∷ [])) w (words_of r)
  cell-read r a = record {
    reads = λ h g. sym (cell-words-at h.young.cells i (below g)) ∙ rw (a, young-cells g p);
  }

  pub cell-put : (cell : List ℕ) {ys : List ℕ} → length cell ≡ 3 → whole_cells cell ≡ true → ys ≡ paste (take (l.old - l.young) (drop l.young w)) (3 * i) cell (length cell)
      → Turns (on_young (with_cell i (cell_in cell))) w (put_mid l.young (l.old - l.young) w ys)
  unfolding parts_of header flat with_young with_cell
  cell-put cell {ys} l e q = record {
    turns = λ h g.
        let z = g.fit.young in
        let (is, good) = one_cell_lem cell l e in
        let put : ys ≡ cell_words (set h.young.cells i (cell_in cell)) =
        q ∙ rw (young-cells g p, l) (ap (λ (u : List ℕ). paste (cell_words h.young.cells) (3 * i) u 3) is ∙ (rw (append-nil, append-nil) at (cell-pasted h.young.cells [] i (cell_in cell) (below g)))) in
        record {
          is = rw (young-cells-put g ys p, put) (sym (encode-parts (on_young (with_cell i (cell_in cell)) h)));
          fit = young-fit _ g.fit (record {
            cursor = z.cursor;
            colls = z.colls;
            proms = z.proms;
            bar = z.bar;
            lens = z.lens;
            tiled = z.tiled;
            cells = length-set h.young.cells i (cell_in cell) ∙ z.cells;
            valid = valid-set h.young.cells i (cell_in cell) z.valid good;
          });
        };
  }

-- one more allocation
module _ {w : List ℕ} {at : ℕ} (amount : ℕ) (r : Reads (λ h. h.young.cursor) w at) (fits : amount < (decode w).size.n - (decode w).young.cursor) where
  pub bump-room : Image w (decode w) → lengths_at + at + amount < length w
  bump-room i = omega (arith, (sized-in i).long, r.reads _ i, n-is i)

  pub bump-turns : 0 < amount → Turns (on_young (λ y. bump y amount)) w (set (set w (lengths_at + at) amount) 4 (at + amount))
  unfolding parts_of header flat with_young bump
  bump-turns pos = record {
    turns = λ h i.
        let fit = rw (image-decode i) at fits in
        let e = lengths i (slot_lengths_at (size_n w)) refl in
        let below : at < length h.young.lens = omega (arith, i.fit.young.lens, r.reads h i) in
        let put : set w (lengths_at + at) amount ≡ flat (set (parts_of h) 3 (set h.young.lens at amount)) =
        sym (set_mid_at lengths_at (slot_lengths_at (size_n w) - lengths_at) at w amount (rw e below))
        ∙ rw e (lengths-put i (set h.young.lens at amount) (slot_lengths_at (size_n w)) refl) in
        record {
          is = rw (put, ← r.reads h i) (sym (encode-parts (on_young (λ y. bump y amount) h)));
          fit = young-fit _ i.fit (bump-fit h.size h.young amount pos fit i.fit.young);
        };
  }

-- no allocation, and other counters
pub restart-turns : {w ys : List ℕ} {l : Layout} {colls proms : ℕ} → Laid w l → colls ≤ most → proms ≤ most
    → ys ≡ padded (take 0 (take (l.slots - l.lens) (drop l.lens w))) (length (take (l.slots - l.lens) (drop l.lens w)))
    → Turns (on_young (restarted colls proms)) w (set (set (set (put_mid l.lens (l.slots - l.lens) w ys) 4 0) 5 colls) 6 proms)
unfolding parts_of header flat with_young restarted padded fresh
restart-turns {w} {ys} {l} {colls} {proms} p k m q = record {
  turns = λ h i.
      let z = i.fit.young in
      let zeros : ys ≡ replicate (length h.young.lens) 0 = q ∙ rw (lens-at i p, lengths i l.slots (slots-at i p), sub-zero (length h.young.lens)) in
      record {
        is = rw (lens-at i p, lengths-put i ys l.slots (slots-at i p), zeros) (sym (encode-parts (on_young (restarted colls proms) h)));
        fit = young-fit _ i.fit (record {
          cursor = (fresh-fit h.size i.fit.sizes).young.cursor;
          colls = k;
          proms = m;
          bar = z.bar;
          lens = length-replicate (length h.young.lens) 0 ∙ z.lens;
          tiled = zeros-tiled (length h.young.lens);
          cells = z.cells;
          valid = z.valid;
        });
      };
}

-- the nursery's barrier absent: it was, or it is put there
pub absent-stays : {w : List ℕ} {r : Bool} → Reads (λ h. is_present (bar_of 0 h)) w r → r ≡ false → Turns (on_young (with_bar absent)) w w
unfolding bar_of is_present with_young with_bar
absent-stays {w} p e = record { turns = λ h i. go h i h.young.bar refl (p.reads h i ∙ e) }
  where
    go : (h : Heap) → Image w h → (b : Barrier) → h.young.bar ≡ b → is_present b ≡ false → Image w (on_young (with_bar absent) h)
    go h i absent is not = rw (← is) i
    go h i (present cs) is not = absurd (true≢false not)

module _ {b : Barrier} (e : b ≡ absent) where
  pub absent-fits : FitBarrier b
  absent-fits = rw e absent-fit

  pub absent-put : {w v : List ℕ} → Turns (λ h. on_bar 0 b h) w v → Turns (on_young (with_bar absent)) w v
  unfolding on_bar
  absent-put t = rw e at t

pub emptied-turns : {w u v : List ℕ} {colls proms : ℕ} (visits : ℕ) → Reads (λ h. h.young.colls) w colls → Reads (λ h. h.young.proms) w proms
    → Turns (on_young (with_bar absent)) w u → Turns (on_young (restarted (colls + 1) (proms + visits))) u v → Turns (on_young (λ y. emptied y visits)) w v
unfolding with_young with_bar restarted emptied
emptied-turns visits k l s t = record { turns = λ h i. rw (add-one, ← k.reads h i, ← l.reads h i) at (t.turns _ (s.turns h i)) }

-- the elder's collections
pub counted-turns : {w : List ℕ} {k : ℕ} → Reads (λ h. h.old.colls) w k → (decode w).old.colls < most → Turns (on_old collected_once) w (set w 7 (k + 1))
unfolding encode with_old collected_once
counted-turns {w} {k} r small = record {
  turns = λ h i.
      let o = i.fit.old in
      record {
        is = ap (λ (l : List ℕ). set l 7 (k + 1)) i.is ∙ rw (← r.reads h i, add-one);
        fit = old-fit _ i.fit (record { colls = rw (image-decode i) at small; bar = o.bar; slots = o.slots; room = o.room; valid = o.valid });
      };
}
