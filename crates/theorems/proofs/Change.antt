-- The pointers change: each moved pointer becomes (1, new base, 0), and nothing else does.
use mathlib.Core.Path.{◌≡◌, refl, sym, ap, ap₂, ◌∙◌}
use mathlib.Core.Bool.{Bool, true, false, true≢false}
use mathlib.Core.Logic.{◌≢◌, inl, inr, ⊎_elim}
use mathlib.Core.List.Memᴰ
use mathlib.Core.List.{List, [], ◌∷◌, ◌++◌, map, map-map, map-id, Memᴰ}
use Prim.Native.Nat.{ℕ}
use native.Mathlib.Omega.{arith}
use lib.ListN.{length, take, drop, length-map, length-append, take-append-drop}
use lib.Seq.{take_at, drop_at, length-take-le}
use Rattle.model.specs.Res.{ok, ◌>>=◌, each}
use Rattle.model.specs.Records.{Ptr, Cell, plain, ref, whole}
use Rattle.model.specs.Barrier.{Barrier, count_in, count_out}
use Rattle.model.specs.Heap.{Nursery, Elder, Sizes}
use Rattle.model.specs.Collector.{moved_to, holds, swap_cell, count_swap, swap_young, swap_old, swap_all}
use Rattle.model.specs.Demand.{Changed, AllChanged}
use Rattle.theorems.specs.Holds.{Holds, such}
use Rattle.theorems.specs.Fit.{FitBarrier, FitNursery}
use Rattle.theorems.proofs.Res.{bind, bind', both, weaken, each_holds}
use Rattle.theorems.proofs.Lists.{take_in, drop-in}
use Rattle.theorems.proofs.Tiles.{cursor-le}
use Rattle.theorems.proofs.Members.{same_ptr-eq, same_ptr-refl}
use Rattle.theorems.proofs.Contents.{Valid, all_valid_lem, valid-all, valid-swap}
use Rattle.theorems.proofs.Barrier.{in-fit, out-fit}
use Rattle.theorems.proofs.Elder.{Good, swap-good}

-- one cell, through all the moves

pub swapped : List (Ptr × ℕ) → Cell → Cell
swapped [] c = c
swapped (m ∷ ms) c = swapped ms (swap_cell m c)

-- the moved pointers are the nursery's
abbrev pub Young : List (Ptr × ℕ) → Type 0
Young ms = (m : Ptr × ℕ) → Memᴰ m ms → m.0.heap ≡ 0

holds-eq : (p : Ptr) (c : Cell) → holds p c ≡ true → c ≡ ref p
unfolding holds
holds-eq p (plain k v) e = absurd (true≢false (sym e))
holds-eq p (ref q) e = ap ref (sym (same_ptr-eq p q e))

holds_ref : (p : Ptr) → holds p (ref p) ≡ true
unfolding holds
holds_ref p = same_ptr-refl p

ref-heap : {p q : Ptr} → ref p ≡ ref q → p.heap ≡ q.heap
ref-heap {p} {q} e = let s : p ≡ q = cc in ap (λ (x : Ptr). x.heap) s

-- a pointer that has moved stays
stays : (ms : List (Ptr × ℕ)) (b : ℕ) → Young ms → swapped ms (ref (whole 1 b)) ≡ ref (whole 1 b)
unfolding swapped swap_cell whole
stays [] b y = refl
stays (m ∷ ms) b y = go (holds m.0 (ref (whole 1 b))) refl (stays ms b (λ x k. y x (Memᴰ.tail k)))
  where
    go : (t : Bool) → holds m.0 (ref (whole 1 b)) ≡ t → swapped ms (ref (whole 1 b)) ≡ ref (whole 1 b) → swapped ms (elim t [ true ↦ ref (moved_to m) | false ↦ ref (whole 1 b) ]) ≡ ref (whole 1 b)
    go true e ih =
        let h = ref-heap (holds-eq m.0 (ref (whole 1 b)) e) in
        let k = y m (Memᴰ.head refl) in
        absurd (omega (arith, h, k))
    go false e ih = ih

pub changed : (ms : List (Ptr × ℕ)) → Young ms → (c : Cell) → Changed ms c (swapped ms c)
unfolding swapped swap_cell moved_to
changed [] y c = inr (refl, λ m k. absurd (Memᴰ.not-nil k))
changed (m ∷ ms) y c = go (holds m.0 c) refl (changed ms (λ x k. y x (Memᴰ.tail k)) c)
  where
    go : (t : Bool) → holds m.0 c ≡ t → Changed ms c (swapped ms c) → Changed (m ∷ ms) c (swapped ms (elim t [ true ↦ ref (moved_to m) | false ↦ c ]))
    go true e ih = inl (m, Memᴰ.head refl, holds-eq m.0 c e, stays ms m.1 (λ x k. y x (Memᴰ.tail k)))
    go false e (inl r) = inl (r.0, Memᴰ.tail r.1, r.2, r.3)
    go false e (inr r) = inr (r.0, λ x k. ⊎_elim (λ q d. true≢false (sym (holds_ref m.0) ∙ ap (holds m.0) (sym (d ∙ ap (λ (z : Ptr × ℕ). ref z.0) q)) ∙ e)) (λ n. r.1 x n) (Memᴰ.cases_cons k))

pub all_changed : (ms : List (Ptr × ℕ)) → Young ms → (l : List Cell) → AllChanged ms l (map (swapped ms) l)
all_changed ms y [] = tt
all_changed ms y (c ∷ l) = (changed ms y c, all_changed ms y l)

-- a pointer into the nursery that is left was there before, and has not moved
pub left : (ms : List (Ptr × ℕ)) (l l' : List Cell) → AllChanged ms l l' → (p : Ptr) → p.heap ≡ 0 → Memᴰ (ref p) l' → Memᴰ (ref p) l × ((m : Ptr × ℕ) → Memᴰ m ms → p ≢ m.0)
unfolding whole
left ms [] [] a p e k = absurd (Memᴰ.not-nil k)
left ms [] (c' ∷ l') a p e k = absurd a
left ms (c ∷ l) [] a p e k = absurd a
left ms (c ∷ l) (c' ∷ l') a p e k = ⊎_elim (here a.0) (λ n. let r = left ms l l' a.1 p e n in (Memᴰ.tail r.0, r.1)) (Memᴰ.cases_cons k)
  where
    here : Changed ms c c' → ref p ≡ c' → Memᴰ (ref p) (c ∷ l) × ((m : Ptr × ℕ) → Memᴰ m ms → p ≢ m.0)
    here (inl r) q = let h = ref-heap (q ∙ r.3) in absurd (omega (arith, h, e))
    here (inr r) q = (Memᴰ.head (q ∙ r.0), λ m n d. r.1 m n (sym r.0 ∙ sym q ∙ ap ref d))

map_swapped : (m : Ptr × ℕ) (ms : List (Ptr × ℕ)) (l : List Cell) → map (swapped ms) (map (swap_cell m) l) ≡ map (swapped (m ∷ ms)) l
unfolding swapped
map_swapped m ms l = map-map (swapped ms) (swap_cell m) l

map-none : (l : List Cell) → map (swapped []) l ≡ l
unfolding swapped
map-none l = map-id l

-- slot by slot

map-map-swapped : (m : Ptr × ℕ) (ms : List (Ptr × ℕ)) (ss : List (List Cell)) → map (map (swapped ms)) (map (map (swap_cell m)) ss) ≡ map (map (swapped (m ∷ ms))) ss
map-map-swapped m ms [] = refl
map-map-swapped m ms (s ∷ ss) = ap₂ ◌∷◌ (map_swapped m ms s) (map-map-swapped m ms ss)

map-map-none : (ss : List (List Cell)) → map (map (swapped [])) ss ≡ ss
map-map-none [] = refl
map-map-none (s ∷ ss) = ap₂ ◌∷◌ (map-none s) (map-map-none ss)

-- nursery, elder and roots, through all the moves
pub record Swapped (M : Type 0) (z : Sizes) (ms : List (Ptr × ℕ)) (g r : Nursery × Elder × List Cell) : Type 0 where
  pub young : FitNursery z r.0
  pub old : Good M z r.1
  pub cursor : r.0.cursor ≡ g.0.cursor
  pub colls : r.0.colls ≡ g.0.colls
  pub proms : r.0.proms ≡ g.0.proms
  pub lens : r.0.lens ≡ g.0.lens
  pub below : take g.0.cursor r.0.cells ≡ map (swapped ms) (take g.0.cursor g.0.cells)
  pub above : drop g.0.cursor r.0.cells ≡ drop g.0.cursor g.0.cells
  pub slots : r.1.slots ≡ map (map (swapped ms)) g.1.slots
  pub old-colls : r.1.colls ≡ g.1.colls
  pub roots : r.2 ≡ map (swapped ms) g.2
  pub roots-valid : Valid r.2

-- the nursery after one
record SwappedYoung (m : Ptr × ℕ) (y r : Nursery) : Type 0 where
  cursor : r.cursor ≡ y.cursor
  colls : r.colls ≡ y.colls
  proms : r.proms ≡ y.proms
  lens : r.lens ≡ y.lens
  cells : r.cells ≡ map (swap_cell m) (take y.cursor y.cells) ++ drop y.cursor y.cells

module _ (z : Sizes) where
  count-swap-fit : (own : ℕ) (m : Ptr × ℕ) (c : Cell) (w : Barrier) → FitBarrier w → Holds FitBarrier (count_swap own m c w)
  unfolding count_swap
  count-swap-fit own m c w f = go (holds m.0 c)
    where
      go : (t : Bool) → Holds FitBarrier (elim t [ true ↦ (count_out own c w >>= count_in own (ref (moved_to m))) | false ↦ ok w ])
      go true = bind _ (out-fit own c w f) (λ v q. in-fit own (ref (moved_to m)) v q)
      go false = such f

  swap-young : (m : Ptr × ℕ) (y : Nursery) → FitNursery z y → Holds (λ r. FitNursery z r × SwappedYoung m y r) (swap_young m y)
  unfolding swap_young
  swap-young m y g =
      bind _ (each_holds (λ l w. FitBarrier w) (count_swap 0 m) (λ c l w s. count-swap-fit 0 m c w s) (take y.cursor y.cells) y.bar g.bar) (λ w s.
      such (
        record {
          cursor = g.cursor;
          colls = g.colls;
          proms = g.proms;
          bar = s;
          lens = g.lens;
          tiled = g.tiled;
          cells = simp (length-append, length-map) (sym (length-append (take y.cursor y.cells) (drop y.cursor y.cells)) ∙ ap length (take-append-drop y.cursor y.cells) ∙ g.cells);
          valid = valid-all _ (λ c k. ⊎_elim (valid-swap m (take y.cursor y.cells) (λ d l. v d (take_in y.cursor y.cells d l)) c) (λ l. v c (drop-in y.cursor y.cells c l)) (Memᴰ.append_cases (map (swap_cell m) (take y.cursor y.cells)) k));
        },
        record { cursor = refl; colls = refl; proms = refl; lens = refl; cells = refl },
      ))
    where
      v : Valid y.cells
      v = all_valid_lem y.cells g.valid

  swap-old : (m : Ptr × ℕ) (e : Elder) → Holds (λ (r : Elder). (r.slots ≡ map (map (swap_cell m)) e.slots) × (r.colls ≡ e.colls)) (swap_old m e)
  unfolding swap_old
  swap-old m e = bind' (each (each (count_swap 1 m)) e.slots e.bar) _ (λ w _. such (refl, refl))

module _ (M : Type 0) (z : Sizes) where
  record First (m : Ptr × ℕ) (g r : Nursery × Elder × List Cell) : Type 0 where
    young : FitNursery z r.0
    old : Good M z r.1
    nursery : SwappedYoung m g.0 r.0
    slots : r.1.slots ≡ map (map (swap_cell m)) g.1.slots
    old-colls : r.1.colls ≡ g.1.colls
    roots : r.2 ≡ map (swap_cell m) g.2
    roots-valid : Valid r.2

  swap-first : (m : Ptr × ℕ) (g : Nursery × Elder × List Cell) → FitNursery z g.0 → Good M z g.1 → Valid g.2 → Holds (First m g) (swap_all m g)
  unfolding swap_all
  swap-first m g fy ge v =
      bind _ (swap-young z m g.0 fy) (λ y sy.
      bind _ (both (swap-good z m g.1 ge) (swap-old z m g.1)) (λ e se.
      such (record { young = sy.0; old = se.0; nursery = sy.1; slots = se.1.0; old-colls = se.1.1; roots = refl; roots-valid = valid-swap m g.2 v })))

  swap-joined : (m : Ptr × ℕ) (ms : List (Ptr × ℕ)) (g : Nursery × Elder × List Cell) → FitNursery z g.0 → (r : Nursery × Elder × List Cell) → First m g r → (s : Nursery × Elder × List Cell) → Swapped M z ms r s → Swapped M z (m ∷ ms) g s
  swap-joined m ms g fy r p s q = record {
    young = q.young;
    old = q.old;
    cursor = q.cursor ∙ p.nursery.cursor;
    colls = q.colls ∙ p.nursery.colls;
    proms = q.proms ∙ p.nursery.proms;
    lens = q.lens ∙ p.nursery.lens;
    below = (rw p.nursery.cursor at q.below) ∙ ap (map (swapped ms)) here ∙ map_swapped m ms (take c cells);
    above = (rw p.nursery.cursor at q.above) ∙ ap (drop c) p.nursery.cells ∙ drop_at (map (swap_cell m) (take c cells)) (drop c cells) c long;
    slots = q.slots ∙ ap (map (map (swapped ms))) p.slots ∙ map-map-swapped m ms g.1.slots;
    old-colls = q.old-colls ∙ p.old-colls;
    roots = q.roots ∙ ap (map (swapped ms)) p.roots ∙ map_swapped m ms g.2;
    roots-valid = q.roots-valid;
  }
    where
      c : ℕ
      c = g.0.cursor

      cells : List Cell
      cells = g.0.cells

      long : length (map (swap_cell m) (take c cells)) ≡ c
      long = length-map (take c cells) (swap_cell m) ∙ length-take-le c cells (rw fy.cells (cursor-le c z.n fy.cursor))

      here : take c r.0.cells ≡ map (swap_cell m) (take c cells)
      here = ap (take c) p.nursery.cells ∙ take_at (map (swap_cell m) (take c cells)) (drop c cells) c long

  pub swaps : (ms : List (Ptr × ℕ)) (g : Nursery × Elder × List Cell) → FitNursery z g.0 → Good M z g.1 → Valid g.2 → Holds (Swapped M z ms g) (each swap_all ms g)
  swaps [] g fy ge v = such (record {
    young = fy;
    old = ge;
    cursor = refl;
    colls = refl;
    proms = refl;
    lens = refl;
    below = sym (map-none (take g.0.cursor g.0.cells));
    above = refl;
    slots = sym (map-map-none g.1.slots);
    old-colls = refl;
    roots = sym (map-none g.2);
    roots-valid = v;
  })
  swaps (m ∷ ms) g fy ge v = bind _ (swap-first m g fy ge v) (λ r p. weaken (swaps ms r p.young p.old p.roots-valid) (λ s q. swap-joined m ms g fy r p s q))
