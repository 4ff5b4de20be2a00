-- A command's step, by what its code found.
use mathlib.Core.Path.{◌≡◌, refl, sym, ap, ◌∙◌}
use mathlib.Core.Bool.{Bool, true, false}
use mathlib.Core.List.{List, [], ◌∷◌}
use mathlib.Core.Option.{some}
use Prim.Native.Nat.{ℕ, ◌<◌}
use lib.Ieee.{Float, binary64, of_bits}
use lib.ListN.{length, get_or, set as put}
use Rattle.std.specs.Prelude.{Result, Ok, Err}
use Rattle.model.specs.Res.{Res, ok, refuse, ◌>>=◌, ask}
use Rattle.model.specs.Records.{Ptr, Cell, blank, cell_of, cell_words, valid_words}
use Rattle.model.specs.Heap.{Heap}
use Rattle.model.specs.Image.{decode}
use Rattle.model.specs.Collector.{read, write}
use Rattle.model.specs.Calls.{write_on, left}
use Rattle.model.specs.Figure.{Figure as ModelFigure, figure_of, figure as figure_in}
use Rattle.model.specs.Command.{set, load, store, figure}
use Rattle.model.specs.Run.{State as ModelState, holding, register, Line, set_line, load_line, store_line, figure_line, the_heap, pointer_in, added, float_in, step}
use Rattle.theorems.proofs.Res.{holds_at}
use Rattle.theorems.proofs.Calls.{read-fit}
use Rattle.question.specs.declared.Question.{Question}
use Rattle.question.specs.declared.Question.TheVariants.{Figure as NoFigure, Heap as NoHeap}
use Rattle.value.specs.declared.Pointer.{Pointer}
use Rattle.value.specs.declared.Value.{Value}
use Rattle.value.specs.declared.Value.TheVariants.{Uninitialized, Int, Bool as BoolV, Float as FloatV, Char, Pointer as PointerV}
use Rattle.value.specs.Value.{value_cell, Whole, cell_asked, Decodes}
use Rattle.value.proofs.RoundTrip.{decoded-asked, decoded-spelled}
use Rattle.figure.specs.Answer.{figured_answer}
use Rattle.figure.specs.declared.Figure.{Figure}
use Rattle.access.specs.Access.{pointer_of, loaded_cell, Loads, stored_outcome}
use Rattle.registers.specs.declared.Registers.{Registers}
use Rattle.registers.specs.Cells.{cells_of_registers, unset, GoodValue, Good}
use Rattle.registers.proofs.Values.{spelled-good, got_cell, got-good, set-cells, set-good}
use Rattle.command.specs.declared.answers.Answer.{Answer}
use Rattle.command.specs.declared.answers.Answer.TheVariants as answer
use Rattle.command.specs.State.{heap_in, state_of, Held}
use Rattle.command.specs.Steps.{target_answer, target_in, Acts}
use Rattle.command.proofs.Heaps.{no-heap, the_heap_lem, refuses, answers}
use Rattle.command.proofs.Stored.{written_as, done-left, refused-left, held-written, heap-written}

-- set

-- what is answered of a cell that is set
abbrev set_in : List ℕ → Registers → ℕ → Cell → Res (Line × ModelState)
set_in w r k c = ok (set_line, holding (heap_in w) (put (cells_of_registers r) k c) (state_of w r))

set_is : (w : List ℕ) (r : Registers) (k a b o : ℕ) → step (set k a b o) (state_of w r) ≡ (cell_asked a b o >>= set_in w r k)
unfolding step state_of cell_asked
set_is w r k a b o = go (valid_words a b o)
  where
    go : (y : Bool) → (ask 3 y >>= λ _. set_in w r k (cell_of a b o)) ≡ ((ask 3 y >>= λ _. ok (cell_of a b o)) >>= set_in w r k)
    go true = refl
    go false = refl

module _ {w : List ℕ} {r : Registers} {k a b o : ℕ} {t : Registers} (h : Held w) (g : Good r) (x : Result Value Question) (d : Decodes a b o x) where
  pub set-refused : {q : Question} {c : Result Answer Question} → x ≡ Err q → (c ≡ Err q) × (t ≡ r) → Acts (set k a b o) w r c w t
  set-refused {q} f = refuses q h g (rw (set_is w r k a b o, ← d.cell, f))

  pub set-done : {v : Value} → x ≡ Ok v → t.cells ≡ put r.cells k v → Acts (set k a b o) w r (Ok answer.Set) w t
  set-done {v} f is =
      let e = rw f at d in
      answers (rw (set_is w r k a b o, ← d.cell, f, set-cells r t k v is)) tt h (set-good r t k v is g (spelled-good a b o v (decoded-asked a b o v e) (decoded-spelled a b o v e)))

-- figure

no-float : (v : Value) → ((n : Float) (b : ℕ) → v ≡ FloatV n b → ⊥) → float_in (value_cell v) ≡ refuse 15
unfolding float_in value_cell blank
no-float Uninitialized k = refl
no-float (Int x) k = refl
no-float (BoolV b) k = refl
no-float (FloatV n b) k = absurd (k n b refl)
no-float (Char c) k = refl
no-float (PointerV p) k = refl

a-float : (v : Value) {n : Float} {b : ℕ} → v ≡ FloatV n b → Whole v → (float_in (value_cell v) >>= figure_in) ≡ figure_of n
unfolding float_in value_cell figure_in
a-float v {n} {b} e f = let number : n ≡ of_bits binary64 b = rw e at f in rw (e, number)

-- what is answered of a figure
abbrev shown : ModelState → ModelFigure → Res (Line × ModelState)
shown s f = ok (figure_line f, s)

module _ {w : List ℕ} {r : Registers} (k : ℕ) (h : Held w) (g : Good r) (v : Value) (at : v ≡ get_or r.cells k unset) where
  pub figure-other : {a : Result Answer Question} {t : Registers} → ((n : Float) (b : ℕ) → v ≡ FloatV n b → ⊥) → (a ≡ Err NoFigure) × (t ≡ r) → Acts (figure k) w r a w t
  unfolding step register state_of
  figure-other o = refuses NoFigure h g (rw (← got_cell r k at, no-float v o))

  figure-is : step (figure k) (state_of w r) ≡ (float_in (value_cell v) >>= figure_in >>= shown (state_of w r))
  unfolding step register state_of
  figure-is = rw (← got_cell r k at) (go (float_in (value_cell v)))
    where
      go : (m : Res ℕ) → (m >>= λ b. figure_in b >>= shown (state_of w r)) ≡ (m >>= figure_in >>= shown (state_of w r))
      go (ok b) = refl
      go (refuse q) = refl

  module _ {n : Float} {b : ℕ} (is : v ≡ FloatV n b) (f : Result Figure Question) (e : figured_answer f ≡ figure_of n) where
    figure-answer : step (figure k) (state_of w r) ≡ (figured_answer f >>= shown (state_of w r))
    figure-answer = rw (figure-is, a-float v is (got-good r k at g).whole, ← e)

    pub figure-refused : {q : Question} {a : Result Answer Question} {t : Registers} → f ≡ Err q → (a ≡ Err q) × (t ≡ r) → Acts (figure k) w r a w t
    figure-refused {q} i = refuses q h g (rw (figure-answer, i))

    pub figure-done : {x : Figure} → f ≡ Ok x → Acts (figure k) w r (Ok (answer.Figure x)) w r
    unfolding holding state_of
    figure-done i = answers (rw (figure-answer, i)) tt h g

-- where an access goes, in the heap

module _ (w : List ℕ) (r : Registers) where
  aimed : {B : Type 0} → 0 < length w → (c : Cell) (d : ℕ) (f : Heap → Ptr → Res B) → (the_heap (state_of w r) >>= λ h. pointer_in c >>= λ x. added x d >>= λ y. f h y) ≡ (target_in c d >>= λ y. f (decode w) y)
  unfolding target_in
  aimed {B} l c d f = rw (the_heap_lem w r l) (go (pointer_in c))
    where
      go : (m : Res Ptr) → (m >>= λ x. added x d >>= λ y. f (decode w) y) ≡ ((m >>= λ x. added x d) >>= λ y. f (decode w) y)
      go (ok x) = refl
      go (refuse q) = refl

-- load

module _ {w : List ℕ} (h : Held w) (l : 0 < length w) (p : Ptr) {x : Result Value Question} (m : Loads (read (decode w) p) x) {u : Value} (f : x ≡ Ok u) where
  loaded-good : GoodValue u
  unfolding loaded_cell
  loaded-good = record {
    cell = holds_at (read-fit (decode w) p (h.formed l).fit) (sym m.cell ∙ ap loaded_cell f);
    whole = rw f at m.whole;
    ranged = rw f at m.ranged;
  }

-- what is answered of a cell that was read
abbrev put_in : List ℕ → Registers → ℕ → Cell → Res (Line × ModelState)
put_in w r k c = ok (load_line c, holding (heap_in w) (put (cells_of_registers r) k c) (state_of w r))

module _ {w : List ℕ} {r : Registers} (k p d : ℕ) (h : Held w) (g : Good r) where
  pub load-heapless : {a : Result Answer Question} {s : Registers} → length w ≡ 0 → (a ≡ Err NoHeap) × (s ≡ r) → Acts (load k p d) w r a w s
  unfolding step
  load-heapless e = refuses NoHeap h g (rw (no-heap w r e))

  module _ (l : 0 < length w) (v : Value) (at : v ≡ get_or r.cells p unset) (t : Result Pointer Question) (e : target_answer t ≡ target_in (value_cell v) d) where
    load_is : step (load k p d) (state_of w r) ≡ (target_answer t >>= λ y. read (decode w) y >>= put_in w r k)
    unfolding step register state_of
    load_is = aimed w r l (get_or (cells_of_registers r) p blank) d (λ h y. read h y >>= put_in w r k) ∙ rw (← got_cell r p at, ← e)

    pub load-nowhere : {q : Question} {a : Result Answer Question} {s : Registers} → t ≡ Err q → (a ≡ Err q) × (s ≡ r) → Acts (load k p d) w r a w s
    load-nowhere {q} f = refuses q h g (rw (load_is, f))

    module _ {y : Pointer} (aim : t ≡ Ok y) (x : Result Value Question) (m : Loads (read (decode w) (pointer_of y)) x) where
      load-reads : step (load k p d) (state_of w r) ≡ (loaded_cell x >>= put_in w r k)
      load-reads = rw (load_is, aim, ← m.cell)

      pub load-refused : {q : Question} {a : Result Answer Question} {s : Registers} → x ≡ Err q → (a ≡ Err q) × (s ≡ r) → Acts (load k p d) w r a w s
      unfolding loaded_cell
      load-refused {q} f = refuses q h g (rw (load-reads, f))

      pub load-done : {u : Value} {a : Result Answer Question} {s : Registers} → x ≡ Ok u → (a ≡ Ok (answer.Load u)) × (s.cells ≡ put r.cells k u) → Acts (load k p d) w r a w s
      unfolding loaded_cell
      load-done {u} {s = s} f (is, now) =
          let good = loaded-good h l (pointer_of y) m f in
          rw is (answers (rw (load-reads, f, set-cells r s k u now)) good h (set-good r s k u now g good))

-- store

-- what is answered of the heap after a write
abbrev kept : List ℕ → Registers → Heap → Res (Line × ModelState)
kept w r h = ok (store_line, holding (some h) (cells_of_registers r) (state_of w r))

module _ {w : List ℕ} {r : Registers} (k p d : ℕ) (h : Held w) (g : Good r) where
  pub store-heapless : {a : Result Answer Question} {s : Registers} → length w ≡ 0 → (a ≡ Err NoHeap) × (s ≡ r) → Acts (store k p d) w r a w s
  unfolding step
  store-heapless e = refuses NoHeap h g (rw (no-heap w r e))

  module _ (l : 0 < length w) (v : Value) (at : v ≡ get_or r.cells p unset) (t : Result Pointer Question) (e : target_answer t ≡ target_in (value_cell v) d)
      (u : Value) (here : u ≡ get_or r.cells k unset) where
    store_is : step (store k p d) (state_of w r) ≡ (target_answer t >>= λ y. write (decode w) y (value_cell u) >>= kept w r)
    unfolding step register state_of
    store_is = aimed w r l (get_or (cells_of_registers r) p blank) d (λ h y. write h y (get_or (cells_of_registers r) k blank) >>= kept w r) ∙ rw (← got_cell r p at, ← e, ← got_cell r k here)

    pub store-nowhere : {q : Question} {a : Result Answer Question} {s : Registers} → t ≡ Err q → (a ≡ Err q) × (s ≡ r) → Acts (store k p d) w r a w s
    store-nowhere {q} f = refuses q h g (rw (store_is, f))

    module _ {y : Pointer} (aim : t ≡ Ok y) {a b o : ℕ} (words : (a ∷ b ∷ o ∷ []) ≡ cell_words (value_cell u ∷ []))
        (x : Result (Unit {0}) Question) (z : List ℕ) (m : left w (write_on (decode w) (pointer_of y) (a ∷ b ∷ o ∷ [])) ≡ stored_outcome x z) where
      good : GoodValue u
      good = got-good r k here g

      as-cell : write_on (decode w) (pointer_of y) (a ∷ b ∷ o ∷ []) ≡ write (decode w) (pointer_of y) (value_cell u)
      as-cell = written_as (decode w) (pointer_of y) (value_cell u) words good.cell

      store_writes : step (store k p d) (state_of w r) ≡ (write_on (decode w) (pointer_of y) (a ∷ b ∷ o ∷ []) >>= kept w r)
      store_writes = rw (store_is, aim, as-cell)

      pub store-done : x ≡ Ok tt → Acts (store k p d) w r (Ok answer.Store) z r
      store-done f =
          let (n, answered, is) = done-left (write_on (decode w) (pointer_of y) (a ∷ b ∷ o ∷ [])) w z x m f in
          let wrote = sym as-cell ∙ answered in
          answers (rw (store_writes, answered, heap-written h l (pointer_of y) (value_cell u) good.cell wrote is)) tt (held-written h l (pointer_of y) (value_cell u) good.cell wrote is) g

      pub store-refused : {q : Question} {c : Result Answer Question} {s : Registers} → x ≡ Err q → (c ≡ Err q) × (s ≡ r) → Acts (store k p d) w r c z s
      store-refused {q} f s =
          let (refusal_is, is) = refused-left (write_on (decode w) (pointer_of y) (a ∷ b ∷ o ∷ [])) w z x q m f in
          rw is (refuses q h g (rw (store_writes, refusal_is)) s)
