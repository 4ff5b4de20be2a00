-- The elder stays good through its collections, moves, remappings and writes.
use mathlib.Core.Path.{◌≡◌, refl, ap, ◌∙◌}
use mathlib.Core.Bool.{Bool, true, false, not}
use mathlib.Core.List.{List, [], ◌∷◌, ◌++◌, map}
use Prim.Native.Nat.{ℕ, zero, suc, ◌+◌, ◌≤◌, ◌<◌, zero-le, suc-le-suc}
use native.Mathlib.Nat.{le_refl, le_of_suc-le-suc, not-suc-le-zero}
use native.Mathlib.Omega.{arith}
use lib.Dec.{ltb, leb}
use lib.ListN.{length, get_or, set, length-set, length-append, length-map}
use Rattle.model.specs.Lists.{only_if, flat}
use Rattle.model.specs.Res.{ok, ◌>>=◌, each}
use Rattle.model.specs.Records.{Ptr, Cell, ref, blank, valid}
use Rattle.model.specs.Barrier.{Barrier, most, count_in, count_out}
use Rattle.model.specs.Heap.{Elder, Sizes, held, in_use}
use Rattle.model.specs.Elder.{keeps, keep, count_dropped, sweep, new_base, room, put}
use Rattle.model.specs.Collector.{moved_to, holds, swap_cell, count_swap, swap_old, write_old}
use Rattle.theorems.specs.Holds.{Holds, such}
use Rattle.theorems.specs.Fit.{FitElder}
use mathlib.Core.Logic.{⊎_elim}
use borrow.Author.Tests.{ltb-true, leb-true}
use Rattle.theorems.proofs.Lists.{flat_in}
use Rattle.theorems.proofs.Contents.{Valid, valid-all, keep-from, set-from, cell-set-from, flat_map, valid-swap}
use Rattle.theorems.proofs.Res.{bind, asked, asked_is, weaken}
use Rattle.theorems.proofs.Barrier.{bit, crosses, tally, Covers, less, in-covers, out-covers, ins-cover, outs-cover}

-- a measure that adds up, over the slots

module _ (μ : List Cell → ℕ) (μ-nil : μ [] ≡ 0) (μ-append : (s t : List Cell) → μ (s ++ t) ≡ μ s + μ t) where
  pub flat-set : (ss : List (List Cell)) (i : ℕ) (t : List Cell) → i < length ss → μ (flat (set ss i t)) + μ (get_or ss i []) ≡ μ (flat ss) + μ t
  unfolding flat
  flat-set [] i t h = absurd (not-suc-le-zero h)
  flat-set (s ∷ ss) zero t h = omega (arith, μ-append t (flat ss), μ-append s (flat ss))
  flat-set (s ∷ ss) (suc i) t h = omega (arith, μ-append s (flat (set ss i t)), μ-append s (flat ss), flat-set ss i t (le_of_suc-le-suc h))

  pub flat_keep : (ps : List Ptr) (b : ℕ) (ss : List (List Cell)) → μ (flat (keep ps b ss)) ≤ μ (flat ss)
  unfolding flat keep
  flat_keep ps b [] = le_refl (μ [])
  flat_keep ps b (s ∷ ss) = go (keeps ps b) (flat_keep ps (suc b) ss)
    where
      go : (t : Bool) → μ (flat (keep ps (suc b) ss)) ≤ μ (flat ss) → μ (only_if t s ++ flat (keep ps (suc b) ss)) ≤ μ (s ++ flat ss)
      go true h = omega (arith, μ-append s (flat (keep ps (suc b) ss)), μ-append s (flat ss))
      go false h = omega (arith, μ-append s (flat ss))

tally-append : (k : ℕ) (s t : List Cell) → tally k (s ++ t) ≡ tally k s + tally k t
unfolding tally
tally-append k [] t = omega arith
tally-append k (c ∷ s) t = omega (arith, tally-append k s t)

tally-nil : (k : ℕ) → tally k [] ≡ 0
unfolding tally
tally-nil k = refl

pub keep-length : (ps : List Ptr) (b : ℕ) (ss : List (List Cell)) → length (keep ps b ss) ≡ length ss
unfolding keep
keep-length ps b [] = refl
keep-length ps b (s ∷ ss) = ap suc (keep-length ps (suc b) ss)

pub flat-map-length : (g : Cell → Cell) (ss : List (List Cell)) → length (flat (map (map g) ss)) ≡ length (flat ss)
unfolding flat
flat-map-length g [] = refl
flat-map-length g (s ∷ ss) = simp (length-append, length-map) (omega (arith, flat-map-length g ss))

tally-set : (k : ℕ) (l : List Cell) (i : ℕ) (c d : Cell) → i < length l → tally k (set l i c) + bit (crosses k (get_or l i d)) ≡ tally k l + bit (crosses k c)
unfolding tally
tally-set k [] i c d h = absurd (not-suc-le-zero h)
tally-set k (a ∷ l) zero c d h = omega arith
tally-set k (a ∷ l) (suc i) c d h = omega (arith, tally-set k l i c d (le_of_suc-le-suc h))

pub in-range : (ss : List (List Cell)) (b : ℕ) {o : ℕ} → o < length (get_or ss b []) → b < length ss
in-range [] b h = absurd (not-suc-le-zero h)
in-range (s ∷ ss) zero h = suc-le-suc zero-le
in-range (s ∷ ss) (suc b) h = suc-le-suc (in-range ss b h)

tally-blank : (k : ℕ) → bit (crosses k blank) ≡ 0
unfolding crosses blank
tally-blank k = refl

-- fit, and its counts cover its cells, if M
pub record Good (M : Type 0) (z : Sizes) (e : Elder) : Type 0 where
  pub colls : e.colls ≤ most
  pub fits : Covers M (λ k. tally k (flat e.slots)) e.bar
  pub slots : length e.slots ≡ z.s
  pub room : in_use e.slots ≤ z.c
  pub valid : Valid (flat e.slots)

-- there is room for k cells
pub record Room (z : Sizes) (k : ℕ) (e : Elder) : Type 0 where
  pub base : held e.slots < length e.slots
  pub cells : length (flat (set e.slots (held e.slots) [])) + k ≤ z.c

module _ {M : Type 0} where
  pub good-fit : {z : Sizes} {e : Elder} → Good M z e → FitElder z e
  good-fit {z} {e} g = record { colls = g.colls; bar = g.fits.fit; slots = g.slots; room = g.room; valid = valid-all (flat e.slots) g.valid }

  -- a collection

  dropped-cover : (ps : List Ptr) (ss : List (List Cell)) (b : ℕ) (f : ℕ → ℕ) (w : Barrier)
      → Covers M (λ k. tally k (flat ss) + f k) w → Holds (Covers M (λ k. tally k (flat (keep ps b ss)) + f k)) (count_dropped ps b ss w)
  unfolding count_dropped keep flat
  dropped-cover ps [] b f w h = such h
  dropped-cover ps (s ∷ ss) b f w h = go (keeps ps b) (dropped-cover ps ss (suc b))
    where
      kept : List Cell
      kept = flat (keep ps (suc b) ss)

      go : (t : Bool) → ((g : ℕ → ℕ) (v : Barrier) → Covers M (λ k. tally k (flat ss) + g k) v → Holds (Covers M (λ k. tally k kept + g k)) (count_dropped ps (suc b) ss v))
          → Holds (Covers M (λ k. tally k (only_if t s ++ kept) + f k)) (each (count_out 1) (only_if (not t) s) w >>= count_dropped ps (suc b) ss)
      go true ih = weaken (ih (λ k. tally k s + f k) w (less (λ k. omega (arith, tally-append k s (flat ss))) h)) (λ v d. less (λ k. omega (arith, tally-append k s kept)) d)
      go false ih = bind _ (outs-cover s (λ k. tally k (flat ss) + f k) w (less (λ k. omega (arith, tally-append k s (flat ss))) h)) (λ v d. ih f v d)

  pub sweep-good : (z : Sizes) (ps : List Ptr) (e : Elder) → e.colls < most → Good M z e → Holds (Good M z) (sweep ps e)
  unfolding sweep in_use
  sweep-good z ps e h g =
      bind _ (dropped-cover ps e.slots 0 (λ k. 0) e.bar (less (λ k. omega arith) g.fits)) (λ w d.
      such (record {
        colls = h;
        fits = less (λ k. omega arith) d;
        slots = keep-length ps 0 e.slots ∙ g.slots;
        room = omega (arith, flat_keep length refl length-append ps 0 e.slots, g.room);
        valid = λ c m. g.valid c (keep-from ps 0 e.slots c m);
      }))

  -- a move

  pub room-is : (z : Sizes) (k : ℕ) (e : Elder) → Good M z e → Holds (λ _. Room z k e) (room z k e)
  unfolding room new_base in_use
  room-is z k e g =
      asked 7 (ltb (held e.slots) z.s) _ (λ a.
      weaken (asked_is 7 (leb (in_use (set e.slots (held e.slots) []) + k) z.c)) (λ _ b.
      record { base = rw g.slots (ltb-true (held e.slots) z.s a); cells = leb-true (length (flat (set e.slots (held e.slots) [])) + k) z.c b }))

  pub put-good : (z : Sizes) (cs : List Cell) (e : Elder) → Valid cs → Good M z e → Room z (length cs) e → Holds (λ (r : ℕ × Elder). Good M z r.1) (put cs e)
  unfolding put new_base in_use
  put-good z cs e v g m =
      bind _ (ins-cover cs (λ k. tally k (flat e.slots)) e.bar g.fits) (λ w d.
      such (record {
        colls = g.colls;
        fits = less (λ k. omega (arith, flat-set (tally k) (tally-nil k) (tally-append k) e.slots (held e.slots) cs m.base)) d;
        slots = length-set e.slots (held e.slots) cs ∙ g.slots;
        room = omega (
          arith,
          m.cells,
          flat-set length refl length-append e.slots (held e.slots) cs m.base,
          flat-set length refl length-append e.slots (held e.slots) [] m.base,
        );
        valid = λ c k. ⊎_elim (g.valid c) (v c) (set-from e.slots (held e.slots) cs k);
      }))

  -- remapping

  module _ (m : Ptr × ℕ) where
    swap-one : (c : Cell) (f : ℕ → ℕ) (w : Barrier) → Covers M (λ k. bit (crosses k c) + f k) w → Holds (Covers M (λ k. bit (crosses k (swap_cell m c)) + f k)) (count_swap 1 m c w)
    unfolding swap_cell count_swap
    swap-one c f w h = go (holds m.0 c)
      where
        go : (t : Bool) → Holds (Covers M (λ k. bit (crosses k (elim t [ true ↦ ref (moved_to m) | false ↦ c ])) + f k)) (elim t [ true ↦ (count_out 1 c w >>= count_in 1 (ref (moved_to m))) | false ↦ ok w ])
        go true = bind _ (out-covers f c w h) (λ v d. in-covers f (ref (moved_to m)) v d)
        go false = such h

    swap-cells : (cs : List Cell) (f : ℕ → ℕ) (w : Barrier) → Covers M (λ k. tally k cs + f k) w → Holds (Covers M (λ k. tally k (map (swap_cell m) cs) + f k)) (each (count_swap 1 m) cs w)
    unfolding tally
    swap-cells [] f w h = such h
    swap-cells (c ∷ cs) f w h =
        bind _ (swap-one c (λ k. tally k cs + f k) w (less (λ k. omega arith) h)) (λ v d.
        weaken (swap-cells cs (λ k. bit (crosses k (swap_cell m c)) + f k) v (less (λ k. omega arith) d)) (λ u e. less (λ k. omega arith) e))

    swap-slots : (ss : List (List Cell)) (f : ℕ → ℕ) (w : Barrier) → Covers M (λ k. tally k (flat ss) + f k) w → Holds (Covers M (λ k. tally k (flat (map (map (swap_cell m)) ss)) + f k)) (each (each (count_swap 1 m)) ss w)
    unfolding flat
    swap-slots [] f w h = such h
    swap-slots (s ∷ ss) f w h =
        bind _ (swap-cells s (λ k. tally k (flat ss) + f k) w (less (λ k. omega (arith, tally-append k s (flat ss))) h)) (λ v d.
        weaken (swap-slots ss (λ k. tally k (map (swap_cell m) s) + f k) v (less (λ k. omega arith) d)) (λ u e.
        less (λ k. omega (arith, tally-append k (map (swap_cell m) s) (flat (map (map (swap_cell m)) ss)))) e))

  pub swap-good : (z : Sizes) (m : Ptr × ℕ) (e : Elder) → Good M z e → Holds (Good M z) (swap_old m e)
  unfolding swap_old in_use
  swap-good z m e g =
      bind _ (swap-slots m e.slots (λ k. 0) e.bar (less (λ k. omega arith) g.fits)) (λ w d.
      such (record {
        colls = g.colls;
        fits = less (λ k. omega arith) d;
        slots = length-map e.slots (map (swap_cell m)) ∙ g.slots;
        room = omega (arith, flat-map-length (swap_cell m) e.slots, g.room);
        valid = rw (flat_map (swap_cell m) e.slots) (valid-swap m (flat e.slots) g.valid);
      }))

  -- a write

  pub write-good : (z : Sizes) (e : Elder) (b o : ℕ) (c : Cell) → valid c ≡ true → o < length (get_or e.slots b []) → Good M z e → Holds (Good M z) (write_old e b (get_or e.slots b []) o c)
  unfolding write_old in_use
  write-good z e b o c t h g =
      let s = get_or e.slots b [] in
      let i : b < length e.slots = in-range e.slots b h in
      let f : ℕ → ℕ = λ k. tally k (flat (set e.slots b (set s o blank))) in
      let a : (k : ℕ) (x : Cell) → tally k (flat (set e.slots b (set s o x))) ≡ bit (crosses k x) + f k =
      λ k x. omega (
        arith,
        tally-blank k,
        tally-set k s o x blank h,
        tally-set k s o blank blank h,
        flat-set (tally k) (tally-nil k) (tally-append k) e.slots b (set s o x) i,
        flat-set (tally k) (tally-nil k) (tally-append k) e.slots b (set s o blank) i,
      )
      in
      bind _ (out-covers f (get_or s o blank) e.bar (less (λ k. omega (
        arith,
        tally-blank k,
        tally-set k s o blank blank h,
        flat-set (tally k) (tally-nil k) (tally-append k) e.slots b (set s o blank) i,
      )) g.fits)) (λ w d.
      bind _ (in-covers f c w d) (λ v q.
      such (record {
        colls = g.colls;
        fits = less (λ k. omega (arith, a k c)) q;
        slots = length-set e.slots b (set s o c) ∙ g.slots;
        room = omega (arith, g.room, flat-set length refl length-append e.slots b (set s o c) i, length-set s o c);
        valid = λ x k. ⊎_elim (g.valid x) (λ j. ⊎_elim (λ l. g.valid x (flat_in e.slots b x l)) (λ q. ap valid q ∙ t) (cell-set-from s o c j)) (set-from e.slots b (set s o c) k);
      })))
