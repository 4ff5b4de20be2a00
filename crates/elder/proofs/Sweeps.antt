-- A collection, step by step: the counter asked, the members listed, the cells of the others counted out, and they leave.
use mathlib.Core.Path.{◌≡◌, refl, sym}
use mathlib.Core.Bool.{Bool, true, false}
use mathlib.Core.List.{List, []}
use Prim.Native.Nat.{ℕ, suc, ◌/◌, ◌≤◌, ◌<◌}
use lib.Dec.{ltb}
use lib.ListN.{length}
use borrow.Author.Tests.{lt-ltb, le-ltb}
use Rattle.std.proofs.Common.{Result, Ok, Err}
use Rattle.model.specs.Res.{Res, ok, refuse, ◌>>=◌, ask}
use Rattle.model.specs.Records.{Ptr, Cell}
use Rattle.model.specs.Barrier.{Barrier, most}
use Rattle.model.specs.Heap.{Elder, Heap}
use Rattle.model.specs.Image.{decode}
use Rattle.model.specs.Elder.{old_members, keep, count_dropped, sweep, collect_old}
use Rattle.theorems.specs.Fit.{FitBarrier, Image}
use Rattle.theorems.specs.Does.{Does, with_old}
use Rattle.theorems.proofs.Members.{no_old}
use Rattle.theorems.proofs.Elder.{sweep-good}
use Rattle.theorems.proofs.Image.{image-decode}
use Rattle.theorems.proofs.Kept.{fit-good}
use Rattle.theorems.proofs.Res.{holds_at}
use Rattle.barrier.specs.Counts.{barrier_of}
use Rattle.question.specs.Question.{answer}
use Rattle.question.specs.declared.Question.{Question}
use Rattle.barrier.specs.declared.WriteBarrier.{WriteBarrier}
use Rattle.trace.specs.Words.{tab, members, listed}
use Rattle.trace.proofs.Entries.{length-members}
use Rattle.layout.specs.Elder.{with_slots, Turned}
use Rattle.fields.specs.Fields.{Reads, Turns, on_old, with_old_bar, collected_once}
use Rattle.fields.proofs.Parts.{most-is}
use Rattle.elder.specs.Steps.{swept, Collects, collect_with, collect_step}
use Rattle.question.specs.declared.Question.TheVariants.{Bound}

-- `sweep`

module _ {w u v : List ℕ} (b : Barrier) (ps : List Ptr) (s : Turns (on_old (with_old_bar b)) w u) (k : Turned (keep ps 0) u v) where
  pub swept-left : Image w (decode w) → (decode w).old.colls < most → Image v (decode v) × ((decode v).old.colls < most)
  unfolding with_old with_old_bar with_slots
  swept-left i small = let j = k.turned _ (s.turns _ i) in rw (image-decode j) (j, small)

  pub swept-turns : {x : List ℕ} → Turns (on_old collected_once) v x → Turns (on_old (swept ps b)) w x
  unfolding with_old with_old_bar with_slots collected_once swept
  swept-turns t = record { turns = λ h i. t.turns _ (k.turned _ (s.turns h i)) }

-- `collect_with`

module _ (list : List ℕ) {w : List ℕ} {colls : ℕ} (r : Reads (λ h. h.old.colls) w colls) where
  abbrev ps : List Ptr
  ps = listed list

  abbrev n : ℕ
  n = length list / 3

  pub counter-full : 4294967295 ≤ colls → Collects (collect_with ps) w (Err Bound) w
  unfolding collect_with
  counter-full k = record { does = record { does = λ h i. rw (r.reads h i, le-ltb colls most (rw most-is k)) refl }; kept = λ _ _. refl }

  module _ (small : colls < 4294967295) (c : Result WriteBarrier Question) (d : Reads (λ h. count_dropped ps 0 h.old.slots h.old.bar) w (answer barrier_of c)) where
    below : colls < most
    below = rw most-is small

    swept-is : (h : Heap) → Image w h → collect_with ps h ≡ (answer barrier_of c >>= λ b. ok (n, on_old (swept ps b) h))
    unfolding collect_with sweep swept
    swept-is h i = rw (lt-ltb h.old.colls most (rw (r.reads h i) below), d.reads h i) (go (answer barrier_of c))
      where
        left : Barrier → Elder
        left b = record { colls = suc h.old.colls; bar = b; slots = keep ps 0 h.old.slots }

        told : Elder → Res (ℕ × Heap)
        told e = ok (length ps, with_old e h)

        go : (m : Res Barrier) → ((m >>= λ b. ok (left b)) >>= told) ≡ (m >>= λ b. ok (n, with_old (left b) h))
        go (ok b) = rw (length-members n list)
        go (refuse q) = refl

    module _ (x : WriteBarrier) (a : c ≡ Ok x) where
      sweep-fit : Image w (decode w) → FitBarrier (barrier_of x)
      unfolding sweep
      sweep-fit i =
          let e : Elder = (decode w).old in
          let is : sweep ps e ≡ ok (record { colls = suc e.colls; bar = barrier_of x; slots = keep ps 0 e.slots }) = rw (d.reads _ i, a) in
          (holds_at (sweep-good (decode w).size ps e (rw (r.reads _ i) below) (fit-good i.fit).old) is).fits.fit

      pub sweep-asks : Image w (decode w) → FitBarrier (barrier_of x) × ((decode w).old.colls < most)
      sweep-asks i = (sweep-fit i, rw (r.reads _ i) below)

      pub with-done : {v : List ℕ} → Turns (on_old (swept ps (barrier_of x))) w v → Collects (collect_with ps) w (Ok n) v
      with-done t = record { does = record { does = λ h i. rw (swept-is h i, a) (refl, t.turns h i) }; kept = λ q e. absurd cc }

    pub with-refused : (q : Question) → c ≡ Err q → Collects (collect_with ps) w (Err q) w
    with-refused q a = record { does = record { does = λ h i. rw (swept-is h i, a) refl }; kept = λ _ _. refl }

-- `collect`

module _ (roots : List Cell) (ms : List ℕ) where
  collect-is : (h : Heap) → collect_with (old_members h.old roots ms) h ≡ collect_step roots ms h
  unfolding collect_with collect_step collect_old
  collect-is h = go (ltb h.old.colls most) (sweep ps h.old)
    where
      ps : List Ptr
      ps = old_members h.old roots ms

      told : Elder → Res (List Ptr × Elder)
      told e = ok (ps, e)

      answer : List Ptr × Elder → Res (ℕ × Heap)
      answer x = ok (length x.0, with_old x.1 h)

      go : (b : Bool) (m : Res Elder) → (ask 11 b >>= λ _. m >>= λ e. answer (ps, e)) ≡ ((ask 11 b >>= λ _. m >>= told) >>= answer)
      go true (ok e) = refl
      go true (refuse q) = refl
      go false m = refl

  pub with-members : (ps : List Ptr) {w : List ℕ} {a : Res ℕ} {v : List ℕ} → ((h : Heap) → Image w h → ps ≡ old_members h.old roots ms) → Does (collect_with ps) w a v → Does (collect_step roots ms) w a v
  with-members ps are d = record { does = λ h i. rw (← collect-is h, ← are h i) (d.does h i) }

-- `collect_all`: no roots and no masks, no members

pub with_none : {w : List ℕ} {r : Result ℕ Question} {v : List ℕ} → Collects (collect_with (listed [])) w r v → Collects (collect_step [] []) w r v
unfolding members tab
with_none s = record { does = with-members [] [] [] (λ h i. sym (no_old h.old)) s.does; kept = s.kept }
