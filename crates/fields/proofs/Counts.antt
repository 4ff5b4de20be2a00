-- A barrier by its heap, and one count of it, set where it stands.
use mathlib.Core.Path.{◌≡◌, refl, sym}
use mathlib.Core.Bool.{true}
use mathlib.Core.List.{List}
use Prim.Native.Nat.{ℕ, zero, suc, ◌+◌, ◌-◌, ◌≤◌, ◌<◌}
use native.Mathlib.Omega.{arith}
use lib.Dec.{eqb}
use lib.ListN.{length, get_or, take, drop, set}
use borrow.Rule.Slice.PartMut.{put_mid, set_mid_at}
use Rattle.model.specs.Barrier.{Barrier, absent, present, cache, most, counts}
use Rattle.model.specs.Heap.{Heap}
use Rattle.model.specs.Image.{flag, barrier, flagged}
use Rattle.theorems.specs.Fit.{FitBarrier, Image}
use Rattle.theorems.specs.Does.{with_young, with_old}
use Rattle.theorems.proofs.Barrier.{fit-set}
use Rattle.image.specs.Places.{old_counts_at}
use Rattle.fields.specs.Fields.{Reads, Turns, on_old, with_bar, with_old_bar, bar_of, on_bar, is_present, with_count, flag_at, counts_at}
use Rattle.fields.proofs.Parts.{cache-is, young-counts, old-counts}
use Rattle.fields.proofs.Turned.{young-flag, old-flag, loads, loaded, young-put, old-put}

pub elder-own : (own : ℕ) → (own ≡ 0 → ⊥) → (flag_at own ≡ 9) × (counts_at own ≡ old_counts_at)
elder-own zero ne = absurd (ne refl)
elder-own (suc k) ne = (refl, refl)

module _ {w : List ℕ} {h : Heap} (i : Image w h) where
  flag_is : (own : ℕ) → get_or w (flag_at own) 0 ≡ flag (bar_of own h)
  unfolding bar_of
  flag_is zero = young-flag i
  flag_is (suc k) = old-flag i

  counts-are : (own : ℕ) → take 256 (drop (counts_at own) w) ≡ counts (bar_of own h)
  unfolding bar_of
  counts-are zero = young-counts i
  counts-are (suc k) = old-counts i

  pub bar-fit : (own : ℕ) → FitBarrier (bar_of own h)
  unfolding bar_of
  bar-fit zero = i.fit.young.bar
  bar-fit (suc k) = i.fit.old.bar

-- put back as it is, it changes nothing
pub bar-same : (own : ℕ) (h : Heap) → on_bar own (bar_of own h) h ≡ h
unfolding on_bar bar_of with_young with_old with_bar with_old_bar
bar-same zero h = refl
bar-same (suc k) h = refl

-- the two heaps' own

module _ {w : List ℕ} {b : Barrier} where
  pub young-bar : Reads (λ h. bar_of 0 h) w b → Reads (λ h. h.young.bar) w b
  unfolding bar_of
  young-bar r = r

  pub old-bar : Reads (λ h. bar_of 1 h) w b → Reads (λ h. h.old.bar) w b
  unfolding bar_of
  old-bar r = r

pub old-bar-put : (b : Barrier) {w v : List ℕ} → Turns (λ h. on_bar 1 b h) w v → Turns (on_old (with_old_bar b)) w v
unfolding on_bar
old-bar-put b t = t

-- a barrier's words lent, from `at` to `end`, the flag at `place`
module _ (own : ℕ) {at end place : ℕ} (from : at ≡ counts_at own) (to : end ≡ at + 256) (flag-at : place ≡ flag_at own) where
  long : end - at ≡ 256
  long = omega arith

  module _ {w : List ℕ} where
    pub bar-loads : {h : Heap} → Image w h → (flagged (get_or w place 0) (take (end - at) (drop at w)) ≡ true) × (length (take (end - at) (drop at w)) ≡ cache)
    bar-loads i = rw (long, from, flag-at) (loads (flag_is i own) (counts-are i own) (bar-fit i own))

    pub counts-read : Reads (λ h. counts (bar_of own h)) w (take (end - at) (drop at w))
    counts-read = record { reads = λ h i. rw (long, from) (sym (counts-are i own)) }

    pub bar-read : {b : Barrier} → b ≡ barrier (get_or w place 0) (take (end - at) (drop at w)) → Reads (λ h. bar_of own h) w b
    bar-read e = record { reads = λ h i. loaded (flag_is i own) (counts-are i own) (rw (long, from, flag-at) at e) }

    pub bar-put : {b : Barrier} → FitBarrier b → {ys : List ℕ} → ys ≡ counts b → {f : ℕ} → f ≡ flag b → Turns (λ h. on_bar own b h) w (set (put_mid at (end - at) w ys) place f)
    unfolding on_bar
    bar-put {b} g {ys} e {f} q = rw (long, from, flag-at) (go own)
      where
        go : (o : ℕ) → Turns (λ h. on_bar o b h) w (set (put_mid (counts_at o) 256 w ys) (flag_at o) f)
        go zero = young-put g e q
        go (suc k) = old-put g e q

flag-present : (b : Barrier) → is_present b ≡ eqb (flag b) 1
unfolding is_present flag
flag-present absent = refl
flag-present (present cs) = refl

pub present-read : {w : List ℕ} (own : ℕ) {at : ℕ} → at ≡ flag_at own → Reads (λ h. is_present (bar_of own h)) w (eqb (get_or w at 0) 1)
present-read own e = record { reads = λ h i. rw (e, flag_is i own) (flag-present (bar_of own h)) }

module _ {w : List ℕ} {h : Heap} (i : Image w h) (k n : ℕ) (small : k < 256) where
  put-part : (own : ℕ) → put_mid (counts_at own) 256 w (set (counts (bar_of own h)) k n) ≡ set w (counts_at own + k) n
  put-part own =
      rw (← counts-are i own) (set_mid_at (counts_at own) 256 k w n (rw (counts-are i own, (bar-fit i own).size, cache-is) small))

  put-image : n ≤ most → (own : ℕ) → Image (set (set w (counts_at own + k) n) (flag_at own) 1) (on_bar own (with_count k n (bar_of own h)) h)
  unfolding on_bar with_count bar_of flag counts
  put-image few zero = rw (← put-part 0) ((young-put (fit-set h.young.bar k n few (bar-fit i 0)) refl refl).turns h i)
  put-image few (suc j) = rw (← put-part 1) ((old-put (fit-set h.old.bar k n few (bar-fit i 1)) refl refl).turns h i)

pub count-put : {w : List ℕ} (own k n : ℕ) → k < 256 → n ≤ most → {at flag : ℕ} → at ≡ counts_at own + k → flag ≡ flag_at own
    → Turns (λ h. on_bar own (with_count k n (bar_of own h)) h) w (set (set w at n) flag 1)
count-put own k n small few e f = record { turns = λ h i. rw (e, f) (put-image i k n small few own) }
