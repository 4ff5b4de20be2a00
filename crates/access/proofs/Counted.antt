-- What a write counts: the barrier's own steps, and the counts that they changed.
use mathlib.Core.Path.{◌≡◌, refl, sym, ap, ◌∙◌}
use mathlib.Core.Bool.{Bool, true, false, not}
use mathlib.Core.List.{List}
use Prim.Native.Nat.{ℕ, zero, suc, ◌-◌, ◌%◌, ◌<◌}
use native.Mathlib.Omega.{arith}
use lib.Dec.{eqb, ltb}
use lib.ListN.{get_or, set, replicate}
use lib.Seq.{get_or-set_same, get_or-set_other, set-get_or, set-set}
use borrow.Author.Tests.{eqb-true, eqb-false}
use Rattle.std.proofs.Common.{Result, Ok, Err}
use Rattle.model.specs.Res.{Res, ok, refuse, ◌>>=◌, ask}
use Rattle.model.specs.Records.{Cell, plain, ref}
use Rattle.model.specs.Barrier.{Barrier, absent, present, cache, most, counts, count, up, down, count_in, count_out}
use Rattle.model.specs.Heap.{Heap}
use Rattle.model.specs.Image.{decode}
use Rattle.theorems.specs.Holds.{Holds, such}
use Rattle.theorems.specs.Fit.{FitBarrier, Image}
use Rattle.theorems.specs.Does.{with_young, with_old}
use Rattle.theorems.proofs.Barrier.{low_byte, out-fit}
use Rattle.question.specs.Question.{number, answer}
use Rattle.question.specs.declared.Question.{Question}
use Rattle.barrier.specs.Counts.{barrier_of}
use Rattle.barrier.specs.declared.WriteBarrier.{WriteBarrier}
use Rattle.barrier.proofs.Steps.{Steps, steps-in, steps-out}
use Rattle.fields.specs.Fields.{Reads, Turns, with_bar, with_old_bar, bar_of, on_bar, with_count}
use Rattle.fields.proofs.Parts.{decoded}
use Rattle.fields.proofs.Counts.{bar-fit}
use Rattle.access.specs.Counting.{crosses, place_of, count_from, count_of, recounted, on_counts, Leaves, done, kept}
use Rattle.access.proofs.Crossing.{bar-same}

-- a heap with another barrier

bar-on : (own : ℕ) (b : Barrier) (h : Heap) → bar_of own (on_bar own b h) ≡ b
unfolding on_bar bar_of with_young with_old with_bar with_old_bar
bar-on zero b h = refl
bar-on (suc k) b h = refl

bar-over : (own : ℕ) (b d : Barrier) (h : Heap) → on_bar own b (on_bar own d h) ≡ on_bar own b h
unfolding on_bar with_young with_old with_bar with_old_bar
bar-over zero b d h = refl
bar-over (suc k) b d h = refl

-- a step that was answered

module _ {m : Res Barrier} (r : Result WriteBarrier Question) (e : answer barrier_of r ≡ m) where
  pub step-done : (d : WriteBarrier) → r ≡ Ok d → m ≡ ok (barrier_of d)
  step-done d f = sym e ∙ rw f

  pub step-refused : (q : Question) → r ≡ Err q → m ≡ refuse (number q)
  step-refused q f = sym e ∙ rw f

-- what one step changes: the count at one place, of a cell that counts

set-from : (b : Barrier) (k n : ℕ) → k < cache → FitBarrier b → count_from k (present (set (counts b) k n)) b ≡ present (set (counts b) k n)
unfolding with_count
set-from b k n s f = rw (get_or-set_same (counts b) k n 0 (rw f.size s))

up_from : (k : ℕ) (b d : Barrier) → k < cache → FitBarrier b → up k b ≡ ok d → count_from k d b ≡ d
unfolding up
up_from k b d s f e = go (ltb (count b k) most) e
  where
    go : (t : Bool) → (ask 11 t >>= λ _. ok (present (set (counts b) k (suc (count b k))))) ≡ ok d → count_from k d b ≡ d
    go true e = let is : d ≡ present (set (counts b) k (suc (count b k))) = cc in rw is (set-from b k (suc (count b k)) s f)
    go false e = let z : ◌≡◌ {A = ℕ} 0 1 = cc in absurd (omega arith)

down-from : (k : ℕ) (b d : Barrier) → k < cache → FitBarrier b → down k b ≡ ok d → count_from k d b ≡ d
unfolding down counts
down-from k absent d s f e = let is : d ≡ absent = cc in rw is
down-from k (present cs) d s f e = go (ltb 0 (get_or cs k 0)) e
  where
    n : ℕ
    n = get_or cs k 0 - 1

    go : (t : Bool) → (ask 10 t >>= λ _. ok (present (set cs k n))) ≡ ok d → count_from k d (present cs) ≡ d
    go true e = let is : d ≡ present (set cs k n) = cc in rw is (set-from (present cs) k n s f)
    go false e = let z : ◌≡◌ {A = ℕ} 0 1 = cc in absurd (omega arith)

-- a step of heap own: nothing for a cell that does not count, and else one count
pub record Counts (own : ℕ) (f : Cell → Barrier → Res Barrier) : Type 0 where
  pub apart : (c : Cell) (b : Barrier) → crosses own c ≡ false → f c b ≡ ok b
  pub from : (c : Cell) (b d : Barrier) → FitBarrier b → f c b ≡ ok d → count_of own c d b ≡ d

counts-by : {own : ℕ} {f : Cell → Barrier → Res Barrier} {g : ℕ → Barrier → Res Barrier} → Steps own f g
    → ((k : ℕ) (b d : Barrier) → k < cache → FitBarrier b → g k b ≡ ok d → count_from k d b ≡ d) → Counts own f
unfolding crosses count_of place_of
counts-by {own} {f} {g} s at = record { apart = stays; from = changes }
  where
    stays : (c : Cell) (b : Barrier) → crosses own c ≡ false → f c b ≡ ok b
    stays (plain k v) b e = sym (s.of_plain k v b)
    stays (ref p) b e = sym (s.of_ref p b) ∙ go (eqb p.heap own) e
      where
        go : (t : Bool) → not t ≡ false → (elim t [ true ↦ ok b | false ↦ g (p.base % 256) b ]) ≡ ok b
        go true e = refl
        go false e = let z : ◌≡◌ {A = ℕ} 0 1 = cc in absurd (omega arith)

    changes : (c : Cell) (b d : Barrier) → FitBarrier b → f c b ≡ ok d → count_of own c d b ≡ d
    changes (plain k v) b d i e = let is : ok b ≡ ok d = s.of_plain k v b ∙ e in cc
    changes (ref p) b d i e = go (eqb p.heap own) (s.of_ref p b ∙ e)
      where
        go : (t : Bool) → (elim t [ true ↦ ok b | false ↦ g (p.base % 256) b ]) ≡ ok d → (elim (not t) [ true ↦ count_from (p.base % 256) d b | false ↦ b ]) ≡ d
        go true e = cc
        go false e = at (p.base % 256) b d (low_byte p.base) i e

pub counts-in : (own : ℕ) → Counts own (count_in own)
counts-in own = counts-by (steps-in own) up_from

pub counts-out : (own : ℕ) → Counts own (count_out own)
counts-out own = counts-by (steps-out own) down-from

-- what both steps change: the counts at two places, as the later step left them

both-set : (j k : ℕ) (bs cs ds : List ℕ) → cs ≡ set bs j (get_or cs j 0) → ds ≡ set cs k (get_or ds k 0) → set (set bs j (get_or ds j 0)) k (get_or ds k 0) ≡ ds
both-set j k bs cs ds e f = go (eqb j k) refl
  where
    m : ℕ
    m = get_or ds k 0

    over : (l : List ℕ) → set l k m ≡ ds → (x : ℕ) → set (set l k x) k m ≡ ds
    over l g x = set-set l k x m ∙ g

    go : (t : Bool) → eqb j k ≡ t → set (set bs j (get_or ds j 0)) k m ≡ ds
    go true x =
        let same : j ≡ k = eqb-true j k x in
        let first : set bs k m ≡ ds = sym (set-set bs k (get_or cs k 0) m) ∙ ap (λ (l : List ℕ). set l k m) (sym (rw same at e)) ∙ sym f in
        rw same (over bs first (get_or ds k 0))
    go false x =
        let there : get_or ds j 0 ≡ get_or cs j 0 = ap (λ (l : List ℕ). get_or l j 0) f ∙ get_or-set_other cs k j m 0 (eqb-false j k x) in
        ap (λ (l : List ℕ). set l k m) (ap (set bs j) there ∙ sym e) ∙ sym f

both-from : (j k : ℕ) (b c d : Barrier) → count_from j c b ≡ c → count_from k d c ≡ d → count_from k d (count_from j d b) ≡ d
unfolding with_count counts
both-from j k b absent absent e f = e
both-from j k b (present cs) absent e f = let z : ◌≡◌ {A = ℕ} 0 1 = cc in absurd (omega arith)
both-from j k b absent (present ds) e f =
    let zeros : set (replicate cache 0) k (get_or ds k 0) ≡ ds = cc in
    rw e (ap present (both-set j k (replicate cache 0) (replicate cache 0) ds (sym (set-get_or (replicate cache 0) j 0)) (sym zeros)))
both-from j k b (present cs) (present ds) e f =
    let first : set (counts b) j (get_or cs j 0) ≡ cs = cc in
    let then : set cs k (get_or ds k 0) ≡ ds = cc in
    ap present (both-set j k (counts b) cs ds (sym first) (sym then))

fit-of : {c : Barrier} → Holds FitBarrier (ok c) → FitBarrier c
fit-of (such f) = f

module _ (own : ℕ) (old new : Cell) (b : Barrier) (f : FitBarrier b) where
  both-changed : {c d : Barrier} → count_out own old b ≡ ok c → count_in own new c ≡ ok d → count_of own new d (count_of own old d b) ≡ d
  unfolding count_of
  both-changed {c} {d} o n =
      go (crosses own old) (crosses own new) refl refl ((counts-out own).from old b c f o) ((counts-in own).from new c d (fit-of (rw o at (out-fit own old b f))) n)
    where
      j : ℕ
      j = place_of old

      k : ℕ
      k = place_of new

      go : (s t : Bool) → crosses own old ≡ s → crosses own new ≡ t → (elim s [ true ↦ count_from j c b | false ↦ b ]) ≡ c → (elim t [ true ↦ count_from k d c | false ↦ c ]) ≡ d
          → (elim t [ true ↦ count_from k d (elim s [ true ↦ count_from j d b | false ↦ b ]) | false ↦ elim s [ true ↦ count_from j d b | false ↦ b ] ]) ≡ d
      go true true x y e g = both-from j k b c d e g
      go true false x y e g = rw (← g) e
      go false true x y e g = rw e g
      go false false x y e g = e ∙ g

  both-counted : (d : Barrier) → recounted own old new b ≡ ok d → count_of own new d (count_of own old d b) ≡ d
  unfolding recounted
  both-counted d e = go (count_out own old b) refl e
    where
      go : (m : Res Barrier) → count_out own old b ≡ m → (m >>= count_in own new) ≡ ok d → count_of own new d (count_of own old d b) ≡ d
      go (ok c) o n = both-changed o n
      go (refuse q) o n = let z : ◌≡◌ {A = ℕ} 0 1 = cc in absurd (omega arith)

-- the image after both counts were stored

abbrev Stores : ℕ → Cell → Barrier → List ℕ → List ℕ → Type 0
Stores own c d w v = Turns (λ h. on_bar own (count_of own c d (bar_of own h)) h) w v

module _ {w : List ℕ} (i : Image w (decode w)) (own : ℕ) (old new : Cell) {b : Barrier} (r : Reads (λ h. bar_of own h) w b) where
  was : bar_of own (decode w) ≡ b
  was = r.reads (decode w) i

  pub recount-refused : (q : Question) → recounted own old new b ≡ refuse (number q) → Leaves (on_counts own (recounted own old new) (decode w)) w (Err q) w
  unfolding on_counts
  recount-refused q e = rw (was, e) kept

  module _ (d : Barrier) {u : List ℕ} (s : Stores own old d w u) where
    pub old-stored : Image u (decode u)
    old-stored = decoded (s.turns (decode w) i)

    pub recount-stored : recounted own old new b ≡ ok d → {v : List ℕ} → Stores own new d u v → Leaves (on_counts own (recounted own old new) (decode w)) w (Ok tt) v
    unfolding on_counts
    recount-stored e t =
        let x : Barrier = count_of own old d (bar_of own (decode w)) in
        let stored : count_of own new d x ≡ d = rw was (both-counted own old new b (rw was at (bar-fit i own)) d e) in
        rw (was, e) (done (rw (bar-on own x (decode w), stored, bar-over own d x (decode w)) at (t.turns _ (s.turns (decode w) i))))

-- no cell counts
pub neither : {w : List ℕ} → Image w (decode w) → (own : ℕ) (old new : Cell) → crosses own old ≡ false → crosses own new ≡ false → Leaves (on_counts own (recounted own old new) (decode w)) w (Ok tt) w
unfolding on_counts recounted
neither {w} i own old new e f = rw ((counts-out own).apart old (bar_of own (decode w)) e, (counts-in own).apart new (bar_of own (decode w)) f, bar-same own (decode w)) (done i)
