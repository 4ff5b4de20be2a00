-- A write, step by step: the barrier, then the cell.
use mathlib.Core.Path.{◌≡◌, refl, sym, ap, ◌∙◌}
use mathlib.Core.Bool.{Bool, true, false}
use mathlib.Core.List.{List, [], ◌∷◌}
use Prim.Native.Nat.{ℕ, zero, suc, ◌≤◌, ◌<◌}
use native.Mathlib.Omega.{arith}
use lib.Dec.{ltb, eqb}
use lib.IntN.{ℤ}
use lib.ListN.{length, get_or, set}
use mir.Syntax.{w64}
use mir.Val.{of_z}
use borrow.Author.Tests.{ltb-true, lt-ltb, eqb-true}
use Rattle.std.specs.Prelude.{Result, Ok, Err}
use Rattle.model.specs.Res.{Res, ok, refuse, ◌>>=◌, ask}
use Rattle.model.specs.Records.{Ptr, Cell, blank, valid_words, whole_cells}
use Rattle.model.specs.Barrier.{Barrier, count_in, count_out}
use Rattle.model.specs.Heap.{Nursery, Heap}
use Rattle.model.specs.Image.{decode}
use Rattle.model.specs.Collector.{young_at, old_at, read, out_young, write_young, write_old, in_young, in_old, write}
use Rattle.model.specs.Calls.{value_good, write_on, left}
use Rattle.theorems.specs.Fit.{Image}
use Rattle.theorems.specs.Does.{with_young, with_old}
use Rattle.theorems.proofs.Image.{image-decode}
use Rattle.theorems.proofs.Lists.{and_left, and_right}
use Rattle.question.specs.Question.{number}
use Rattle.question.specs.declared.Question.{Question}
use Rattle.question.specs.declared.Question.TheVariants.{Access}
use Rattle.value.specs.declared.Pointer.{Pointer}
use Rattle.trace.specs.Words.{pointer}
use Rattle.slots.specs.Slots.{written}
use Rattle.layout.specs.Elder.{with_slots, Turned}
use Rattle.fields.specs.Fields.{Turns, on_young, on_old, with_bar, with_old_bar, with_cell, bar_of, on_bar, cell_in}
use Rattle.image.specs.Answers.{made_outcome}
use Rattle.access.specs.Access.{pointer_of, stored_outcome}
use Rattle.access.specs.Counting.{gone_if, recounted, on_counts, store_young, store_old, Leaves, done, kept}
use Rattle.access.proofs.Answers.{pointer_is}

-- what was left, by the answer

done-of : {m : Res Heap} {w v : List ℕ} {r : Result (Unit {0}) Question} → Leaves m w r v → r ≡ Ok tt → (h : Heap) × (m ≡ ok h) × Image v h
done-of (done {h = h} i) e = (h, refl, i)
done-of kept e = let z : ◌≡◌ {A = ℕ} 0 1 = cc in absurd (omega arith)

refused-of : {m : Res Heap} {w v : List ℕ} {r : Result (Unit {0}) Question} {q : Question} → Leaves m w r v → r ≡ Err q → (m ≡ refuse (number q)) × (v ≡ w)
refused-of {q = q} (done i) e = let z : ◌≡◌ {A = ℕ} 0 1 = cc in absurd (omega arith)
refused-of {q = q} (kept {q = p}) e = let z : p ≡ q = cc in (ap (λ (x : Question). refuse (number x)) z, refl)

pub leaves-left : {m : Res Heap} {w v : List ℕ} {r : Result (Unit {0}) Question} → Leaves m w r v → left w m ≡ stored_outcome r v
unfolding left made_outcome
leaves-left (done i) = λ k. record { answer = ok []; image = sym i.is k; roots = [] }
leaves-left kept = refl

pub left-refused : {m : Res Heap} {w v : List ℕ} (q : Question) → m ≡ refuse (number q) → v ≡ w → Leaves m w (Err q) v
left-refused q e f = rw (e, f) kept

-- the barrier that was counted
some-barrier : (f : Barrier → Heap) (m : Res Barrier) {w v : List ℕ} {r : Result (Unit {0}) Question} → Leaves (m >>= λ b. ok (f b)) w r v → r ≡ Ok tt → (b : Barrier) × (m ≡ ok b) × Image v (f b)
some-barrier f (ok b) l e = let (h, p, i) = done-of l e in let q : h ≡ f b = cc in (b, refl, rw (← q) i)
some-barrier f (refuse q) l e = let (h, p, i) = done-of l e in let z : ◌≡◌ {A = ℕ} 0 1 = cc in absurd (omega arith)

no-barrier : (f g : Barrier → Heap) (m : Res Barrier) (q : ℕ) → (m >>= λ x. ok (f x)) ≡ refuse q → (m >>= λ x. ok (g x)) ≡ refuse q
no-barrier f g (ok x) q e = let z : ◌≡◌ {A = ℕ} 0 1 = cc in absurd (omega arith)
no-barrier f g (refuse p) q e = let z : p ≡ q = cc in ap refuse z

-- a write's steps, the barrier's first
chained : {A : Type 0} (own : ℕ) (c : Cell) (y : Barrier → A) (g : A → Heap) (m : Res Barrier)
    → ((m >>= λ w. count_in own c w >>= λ w'. ok (y w')) >>= λ a. ok (g a)) ≡ ((m >>= count_in own c) >>= λ b. ok (g (y b)))
chained own c y g (ok w) = go (count_in own c w)
  where
    go : (m : Res Barrier) → ((m >>= λ w'. ok (y w')) >>= λ a. ok (g a)) ≡ (m >>= λ b. ok (g (y b)))
    go (ok b) = refl
    go (refuse q) = refl
chained own c y g (refuse q) = refl

-- the words of a value for which 3 gets a yes

module _ (w : List ℕ) (e : value_good w ≡ true) where
  pub value-length : length w ≡ 3
  unfolding value_good
  value-length = eqb-true (length w) 3 (and_right (whole_cells w) (eqb (length w) 3) e)

  pub value-whole : whole_cells w ≡ true
  unfolding value_good
  value-whole = and_left (whole_cells w) (eqb (length w) 3) e

pub value-valid : (w : List ℕ) → length w ≡ 3 → whole_cells w ≡ true → valid_words (get_or w 0 0) (get_or w 1 0) (get_or w 2 0) ≡ true
unfolding whole_cells
value-valid [] q p = absurd (omega arith)
value-valid (a ∷ []) q p = absurd (omega arith)
value-valid (a ∷ b ∷ []) q p = absurd (omega arith)
value-valid (a ∷ b ∷ o ∷ w) q p = and_left (valid_words a b o) (whole_cells w) p

-- in the elder

module _ {w : List ℕ} (b o : ℕ) {old new : Cell} (cell : List ℕ) {r : Result (Unit {0}) Question} {v : List ℕ}
    (eo : old ≡ get_or (get_or (decode w).old.slots b []) o blank) (en : new ≡ cell_in cell)
    (l : Leaves (on_counts 1 (recounted 1 old new) (decode w)) w r v) where
  abbrev h : Heap
  h = decode w

  abbrev s : List Cell
  s = get_or h.old.slots b []

  store_is : store_old b s o (cell_in cell) h ≡ (recounted 1 old new h.old.bar >>= λ x. ok (with_old (record { colls = h.old.colls; bar = x; slots = set h.old.slots b (set s o (cell_in cell)) }) h))
  unfolding store_old write_old recounted
  store_is = rw (eo, en) (chained 1 (cell_in cell) _ _ (count_out 1 (get_or s o blank) h.old.bar))

  counted-old : r ≡ Ok tt → (x : Barrier) × (recounted 1 old new h.old.bar ≡ ok x) × Image v (on_old (with_old_bar x) h)
  unfolding on_counts bar_of on_bar
  counted-old e = some-barrier (λ x. on_old (with_old_bar x) h) (recounted 1 old new h.old.bar) l e

  pub old-there : r ≡ Ok tt → o < length s → Image v (decode v) × (o < length (get_or (decode v).old.slots b []))
  unfolding with_old_bar with_old
  old-there e u = let (x, m, i) = counted-old e in rw (image-decode i) (i, u)

  pub old-stored : {u : List ℕ} → r ≡ Ok tt → Turned (written b o cell) v u → Leaves (store_old b s o (cell_in cell) h) w (Ok tt) u
  unfolding with_old_bar with_old with_slots
  old-stored e t =
      let (x, m, i) = counted-old e in
      rw (store_is, m) (done (t.turned _ i))

  pub old-refused : (q : Question) → r ≡ Err q → Leaves (store_old b s o (cell_in cell) h) w (Err q) v
  unfolding on_counts bar_of on_bar
  old-refused q e =
      let (m, k) = refused-of l e in
      left-refused q (store_is ∙ no-barrier _ _ (recounted 1 old new h.old.bar) (number q) m) k

-- in the nursery

out-is : (y : Nursery) (i : ℕ) → out_young y i ≡ count_out 0 (gone_if (ltb i y.cursor) (get_or y.cells i blank)) y.bar
unfolding out_young gone_if count_out blank
out-is y i = go (ltb i y.cursor)
  where
    go : (t : Bool) → (elim t [ true ↦ count_out 0 (get_or y.cells i blank) y.bar | false ↦ ok y.bar ]) ≡ count_out 0 (gone_if t (get_or y.cells i blank)) y.bar
    go true = refl
    go false = refl

module _ {w : List ℕ} (i : ℕ) {old new : Cell} (cell : List ℕ) {r : Result (Unit {0}) Question} {v : List ℕ}
    (eo : old ≡ gone_if (ltb i (decode w).young.cursor) (get_or (decode w).young.cells i blank)) (en : new ≡ cell_in cell)
    (l : Leaves (on_counts 0 (recounted 0 old new) (decode w)) w r v) where
  abbrev hy : Heap
  hy = decode w

  young-is : store_young i (cell_in cell) hy ≡ (recounted 0 old new hy.young.bar >>= λ x. ok (with_young (with_cell i (cell_in cell) (with_bar x hy.young)) hy))
  unfolding store_young write_young recounted with_cell with_bar
  young-is = rw (eo, en, out-is hy.young i) (chained 0 (cell_in cell) _ _ (count_out 0 (gone_if (ltb i hy.young.cursor) (get_or hy.young.cells i blank)) hy.young.bar))

  counted-young : r ≡ Ok tt → (x : Barrier) × (recounted 0 old new hy.young.bar ≡ ok x) × Image v (on_young (with_bar x) hy)
  unfolding on_counts bar_of on_bar
  counted-young e = some-barrier (λ x. on_young (with_bar x) hy) (recounted 0 old new hy.young.bar) l e

  pub young-there : r ≡ Ok tt → i < hy.size.n → Image v (decode v) × (i < (decode v).size.n)
  unfolding with_young
  young-there e u = let (x, m, k) = counted-young e in rw (image-decode k) (k, u)

  pub young-stored : {u : List ℕ} → r ≡ Ok tt → Turns (on_young (with_cell i (cell_in cell))) v u → Leaves (store_young i (cell_in cell) hy) w (Ok tt) u
  unfolding with_young
  young-stored e t = let (x, m, k) = counted-young e in rw (young-is, m) (done (t.turns _ k))

  pub young-refused : (q : Question) → r ≡ Err q → Leaves (store_young i (cell_in cell) hy) w (Err q) v
  unfolding on_counts bar_of on_bar
  young-refused q e =
      let (m, k) = refused-of l e in
      left-refused q (young-is ∙ no-barrier _ _ (recounted 0 old new hy.young.bar) (number q) m) k

-- by the place

module _ (w : List ℕ) (b o : ℕ) where
  abbrev slot : List Cell
  slot = get_or (decode w).old.slots b []

  pub old-read : {d : Cell} → read (decode w) (pointer 1 b o) ≡ ok d → (o < length slot) × (d ≡ get_or slot o blank)
  unfolding read old_at
  old-read {d} e = go (ltb o (length slot)) refl e
    where
      go : (t : Bool) → ltb o (length slot) ≡ t → ((ask 8 t >>= λ _. ok slot) >>= λ s. ok (get_or s o blank)) ≡ ok d → (o < length slot) × (d ≡ get_or slot o blank)
      go true f k = (ltb-true o (length slot) f, cc)
      go false f k = let z : ◌≡◌ {A = ℕ} 0 1 = cc in absurd (omega arith)

  pub old-written : (c : Cell) → o < length slot → store_old b slot o c (decode w) ≡ write (decode w) (pointer 1 b o) c
  unfolding write in_old old_at store_old with_old
  old-written c u = rw (lt-ltb o (length slot) u)

  pub old-unread : (c : Cell) (q : ℕ) → read (decode w) (pointer 1 b o) ≡ refuse q → write (decode w) (pointer 1 b o) c ≡ refuse q
  unfolding read write in_old old_at
  old-unread c q e = go (ltb o (length slot)) _ e
    where
      go : (t : Bool) (f : List Cell → Res Heap) → ((ask 8 t >>= λ _. ok slot) >>= λ s. ok (get_or s o blank)) ≡ refuse q → ((ask 8 t >>= λ _. ok slot) >>= f) ≡ refuse q
      go true f k = let z : ◌≡◌ {A = ℕ} 0 1 = cc in absurd (omega arith)
      go false f k = let z : 8 ≡ q = cc in ap refuse z

module _ (w : List ℕ) (b o : ℕ) (c : Cell) where
  pub young-written : (i : ℕ) → young_at (decode w) (pointer 0 b o) ≡ ok i → store_young i c (decode w) ≡ write (decode w) (pointer 0 b o) c
  unfolding write in_young store_young with_young
  young-written i e = rw e

  pub young-nowhere : (q : ℕ) → young_at (decode w) (pointer 0 b o) ≡ refuse q → write (decode w) (pointer 0 b o) c ≡ refuse q
  unfolding write in_young
  young-nowhere q e = rw e

-- any other heap
pub other-written : (h : Heap) (p : Ptr) (c : Cell) → 2 ≤ p.heap → write h p c ≡ refuse 8
unfolding write
other-written h p c l = go p.heap refl
  where
    go : (k : ℕ) → p.heap ≡ k → write h p c ≡ refuse 8
    go zero e = absurd (omega arith)
    go (suc zero) e = absurd (omega arith)
    go (suc (suc k)) e = rw e

-- a write whose value got a yes from 3

module _ (w : List ℕ) (p : Pointer) (cell : List ℕ) (g : value_good cell ≡ true) where
  pub formed-written : {r : Result (Unit {0}) Question} {v : List ℕ} (k : ℕ) (x : ℤ) → p.heap ≡ k → x ≡ p.offset → Leaves (write (decode w) (pointer k p.base (of_z w64 x)) (cell_in cell)) w r v → left w (write_on (decode w) (pointer_of p) cell) ≡ stored_outcome r v
  unfolding write_on
  formed-written k x e f l = rw g (leaves-left (rw (pointer_is p k x e f) at l))

  pub formed-other : 2 ≤ p.heap → left w (write_on (decode w) (pointer_of p) cell) ≡ stored_outcome (Err Access) w
  unfolding write_on
  formed-other l = rw g (leaves-left (left-refused Access (other-written (decode w) (pointer_of p) (cell_in cell) l) refl))
