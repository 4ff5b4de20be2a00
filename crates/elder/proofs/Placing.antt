-- An allocation placed, step by step: room asked for, the cells counted in, and put at the new base.
use mathlib.Core.Path.{◌≡◌, refl, sym, ◌∙◌}
use mathlib.Core.Bool.{Bool, true, false}
use mathlib.Core.List.{List}
use Prim.Native.Nat.{ℕ, zero, suc}
use lib.ListN.{set, replicate}
use Rattle.std.proofs.Common.{Result, Ok, Err}
use Rattle.model.specs.Res.{Res, ok, refuse, ◌>>=◌, each}
use Rattle.model.specs.Records.{Cell, blank, whole_cells}
use Rattle.model.specs.Barrier.{Barrier, count_in}
use Rattle.model.specs.Heap.{Elder, Heap}
use Rattle.model.specs.Image.{decode}
use Rattle.model.specs.Elder.{new_base, room, put, place, place_new}
use Rattle.model.specs.Calls.{cells_in}
use Rattle.theorems.specs.Fit.{FitBarrier, Image}
use Rattle.theorems.specs.Does.{Meets, Does, with_old}
use Rattle.theorems.proofs.Barrier.{in-fit}
use Rattle.theorems.proofs.Does.{does-then, does-refused, does-same}
use Rattle.theorems.proofs.Image.{image-decode}
use Rattle.theorems.proofs.Res.{each_holds, holds_at}
use Rattle.barrier.specs.Counts.{barrier_of, any_crossing}
use Rattle.barrier.proofs.Steps.{steps-in}
use Rattle.barrier.proofs.Turns.{quiet}
use Rattle.question.specs.Question.{number, answer, done_answer}
use Rattle.question.specs.declared.Question.{Question}
use Rattle.barrier.specs.declared.WriteBarrier.{WriteBarrier}
use Rattle.trace.proofs.Places.{in-length}
use Rattle.layout.specs.Elder.{with_slots, Turned, fit_answer, fit_for}
use Rattle.words.specs.Source.{cells_from, count_of}
use Rattle.words.specs.declared.cells.Cells.{Cells}
use Rattle.words.specs.declared.Source.{Source}
use Rattle.words.specs.declared.Source.TheVariants.{Blank, Given}
use Rattle.fields.specs.Fields.{Reads, Turns, on_old, with_old_bar}
use Rattle.elder.specs.Steps.{count_step, place_step, blank_step, source_step}

-- `count_in`

module _ (cs : List Cell) {w : List ℕ} {b : Barrier} (s : Reads (λ h. h.old.bar) w b) (r : Result WriteBarrier Question) (e : answer barrier_of r ≡ each (count_in 1) cs b) where
  count-is : (h : Heap) → Image w h → count_step cs h ≡ (answer barrier_of r >>= λ x. ok (tt, on_old (with_old_bar x) h))
  unfolding count_step
  count-is h i = rw (s.reads h i, e)

  module _ (d : WriteBarrier) (a : r ≡ Ok d) where
    pub count-fit : Image w (decode w) → FitBarrier (barrier_of d)
    count-fit i = holds_at (each_holds (λ _ x. FitBarrier x) (count_in 1) (λ a l x f. in-fit 1 a x f) cs b (rw (s.reads _ i) at i.fit.old.bar)) (rw a at (sym e))

    pub count-done : {v : List ℕ} → Turns (on_old (with_old_bar (barrier_of d))) w v → Does (count_step cs) w (ok tt) v
    count-done t = record { does = λ h i. rw (count-is h i, a) (refl, t.turns h i) }

  pub count-refused : {v : List ℕ} (q : Question) → r ≡ Err q → Does (count_step cs) w (refuse (number q)) v
  count-refused q a = record { does = λ h i. rw (count-is h i, a) refl }

-- Uninitialized cells leave the barrier as it is
blanks-counted : (n : ℕ) (b : Barrier) → each (count_in 1) (replicate n blank) b ≡ ok b
unfolding blank count_in
blanks-counted zero b = refl
blanks-counted (suc n) b = blanks-counted n b

pub count-blank : {src : Source} (n : ℕ) {w : List ℕ} → src ≡ Blank n → Does (count_step (cells_from src)) w (ok tt) w
unfolding count_step with_old with_old_bar
count-blank n e = rw e (record { does = λ h i. rw (blanks-counted n h.old.bar) (refl, i) })

pub count-given : {src : Source} (s : Cells) {x : Res (Unit {0})} {w v : List ℕ} → src ≡ Given s → Does (count_step (cells_in s.words.now)) w x v → Does (count_step (cells_from src)) w x v
count-given s e d = rw e d

-- where none crosses, nothing changes
pub count-quiet : (src : List ℕ) {w : List ℕ} {r : Bool} → whole_cells src ≡ true → r ≡ any_crossing 1 src → r ≡ false → Does (count_step (cells_in src)) w (ok tt) w
unfolding count_step with_old with_old_bar
count-quiet src {r = r} whole e q = record { does = λ h i. rw (quiet (steps-in 1) src whole (sym e ∙ q) h.old.bar) (refl, i) }

-- `place`: room for k cells, and these put

abbrev put_step : ℕ → List Cell → Heap → Res (ℕ × Heap)
put_step k cs h = (room h.size k h.old >>= λ _. put cs h.old) >>= λ r. ok (r.0, with_old r.1 h)

abbrev put_at : ℕ → List Cell → Unit {0} → Heap → Res (ℕ × Heap)
put_at b cs _ h = ok (b, with_slots (set h.old.slots b cs) h)

put_is : (k : ℕ) (cs : List Cell) (h : Heap) → put_step k cs h ≡ (fit_for k h >>= λ b. count_step cs h >>= λ x. put_at b cs x.0 x.1)
unfolding put fit_for count_step with_slots with_old with_old_bar
put_is k cs h = go (room h.size k h.old) (each (count_in 1) cs h.old.bar)
  where
    new : Barrier → Res (ℕ × Elder)
    new x = ok (new_base h.old, record { colls = h.old.colls; bar = x; slots = set h.old.slots (new_base h.old) cs })

    answer : ℕ × Elder → Res (ℕ × Heap)
    answer r = ok (r.0, with_old r.1 h)

    with-bar : Barrier → Res (Unit {0} × Heap)
    with-bar x = ok (tt, on_old (with_old_bar x) h)

    go : (m : Res (Unit {0})) (n : Res Barrier) → ((m >>= λ _. n >>= new) >>= answer) ≡ ((m >>= λ _. ok (new_base h.old)) >>= λ b. (n >>= with-bar) >>= λ x. put_at b cs x.0 x.1)
    go (ok a) (ok x) = refl
    go (ok a) (refuse q) = refl
    go (refuse q) n = refl

module _ (k : ℕ) (cs : List Cell) (w : List ℕ) (r : Result ℕ Question) (e : fit_answer r ≡ fit_for k (decode w)) where
  fit_of : (h : Heap) → Image w h → fit_for k h ≡ fit_answer r
  fit_of h i = rw (← image-decode i) (sym e)

  put-none : {v : List ℕ} {q : Question} → r ≡ Err q → Does (put_step k cs) w (refuse (number q)) v
  put-none a = record { does = λ h i. rw (put_is k cs h, fit_of h i, a) refl }

  module _ {b : ℕ} (a : r ≡ Ok b) where
    put_then : (h : Heap) → Image w h → (count_step cs h >>= λ x. put_at b cs x.0 x.1) ≡ put_step k cs h
    put_then h i = rw (put_is k cs h, fit_of h i, a) refl

    put-done : {u v : List ℕ} → Does (count_step cs) w (ok tt) u → Turned (λ ss. set ss b cs) u v → Does (put_step k cs) w (ok b) v
    put-done d t = does-same put_then (does-then (put_at b cs) d (record { does = λ h i. (refl, t.turned h i) }))

    put_refused : {u v : List ℕ} {q : ℕ} → Does (count_step cs) w (refuse q) u → Does (put_step k cs) w (refuse q) v
    put_refused d = does-same put_then (does-refused (put_at b cs) d)

    -- after the count there is room as before
    still-room : {u : List ℕ} → Image w (decode w) → Does (count_step cs) w (ok tt) u → Image u (decode u) × (ok b ≡ fit_for k (decode u))
    unfolding count_step fit_for room new_base with_old with_old_bar
    still-room {u} i d = go (each (count_in 1) cs (decode w).old.bar) (d.does _ i)
      where
        with-bar : Barrier → Res (Unit {0} × Heap)
        with-bar x = ok (tt, on_old (with_old_bar x) (decode w))

        go : (m : Res Barrier) → Meets (m >>= with-bar) (ok tt) u → Image u (decode u) × (ok b ≡ fit_for k (decode u))
        go (ok x) t = rw (image-decode t.1) (t.1, (rw a at e))
        go (refuse q) t = absurd t

-- for the cells that come
source-is : (src : Source) (h : Heap) → put_step (count_of src) (cells_from src) h ≡ source_step src h
unfolding place_step blank_step place place_new
source-is (Blank n) h = refl
source-is (Given s) h = rw (in-length s.words.now) refl

module _ (src : Source) (w : List ℕ) (n : ℕ) (k : n ≡ count_of src) (r : Result ℕ Question) (e : fit_answer r ≡ fit_for n (decode w)) where
  abbrev cells : List Cell
  cells = cells_from src

  room-is : fit_answer r ≡ fit_for (count_of src) (decode w)
  room-is = rw (← k) e

  as-source : {x : Res ℕ} {v : List ℕ} → Does (put_step (count_of src) cells) w x v → Does (source_step src) w x v
  as-source d = does-same (λ h i. source-is src h) d

  pub place_none : {v : List ℕ} (q : Question) → r ≡ Err q → Does (source_step src) w (refuse (number q)) v
  place_none q a = as-source (put-none (count_of src) cells w r room-is a)

  module _ {b : ℕ} (a : r ≡ Ok b) {u : List ℕ} (c : Result (Unit {0}) Question) (d : Does (count_step cells) w (done_answer c) u) where
    module _ (x : Unit {0}) (f : c ≡ Ok x) where
      pub place-asks : Image w (decode w) → Image u (decode u) × (ok b ≡ fit_for (count_of src) (decode u))
      place-asks i = still-room (count_of src) cells w r room-is a i (rw f at d)

      pub place-done : {v : List ℕ} → Turned (λ ss. set ss b cells) u v → Does (source_step src) w (ok b) v
      place-done t = as-source (put-done (count_of src) cells w r room-is a (rw f at d) t)

    pub place-refused : {v : List ℕ} (q : Question) → c ≡ Err q → Does (source_step src) w (refuse (number q)) v
    place-refused q f = as-source (put_refused (count_of src) cells w r room-is a (rw f at d))
