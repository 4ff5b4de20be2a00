-- The moves of one alloc: the steps are chained, what they moved, and where the elder's cells come from.
use mathlib.Core.Path.{◌≡◌, refl, sym, ap, ◌∙◌}
use mathlib.Core.Bool.{Bool, true, false}
use mathlib.Core.Logic.{◌⊎◌, inl, inr, ⊎_elim}
use mathlib.Core.List.Memᴰ
use mathlib.Core.List.{List, [], ◌∷◌, ◌++◌, map-append, append_assoc, append-nil, Memᴰ}
use Prim.Native.Nat.{ℕ, zero, suc, ◌+◌, ◌-◌, min, ◌≤◌, ◌<◌}
use native.Mathlib.Nat.{zero-add, add-zero}
use native.Mathlib.Omega.{arith}
use lib.Dec.{ltb, leb}
use lib.ListN.{length, get_or, set, drop, length-append, length-take, length-drop}
use lib.Seq.{get_or-set_same, get_or-set_other, get_or-take, get_or-drop}
use Rattle.model.specs.Lists.{only_if, flat}
use Rattle.model.specs.Reach.{Exact, mem}
use Rattle.model.specs.Res.{ok, ◌>>=◌, each}
use Rattle.model.specs.Records.{Ptr, Cell, blank, whole, same_ptr}
use Rattle.model.specs.Barrier.{most, count_in, masks}
use Rattle.model.specs.Heap.{Elder, Heap, part, held, in_use}
use Rattle.model.specs.Elder.{old_members, keeps, keep, count_dropped, sweep, collect_old, new_base, put, place, Step, move, sweeping, Moving, collect_if_full, move_one, moves_of, sweeps_of}
use Rattle.model.specs.Demand.{OldStart, OldLeads, Copied, Swept, Chain, sources}
use Rattle.theorems.specs.Holds.{Holds, such}
use Rattle.theorems.specs.Fit.{FitNursery, FitElder}
use Rattle.theorems.proofs.Reach.{mem-true, mem-has}
use borrow.Author.Tests.{ltb-true, leb-true, leb-false}
use Rattle.theorems.proofs.Lists.{take_in, drop-in}
use Rattle.theorems.proofs.Tiles.{cursor-le, allocation-inside}
use Rattle.theorems.proofs.Members.{same_ptr-eq, same_ptr-refl, old-exact, old-few}
use Rattle.theorems.proofs.Res.{bind, bind', asked, weaken, both, each_holds}
use Rattle.theorems.proofs.Contents.{keep-from, set-from, Valid, all_valid_lem}
use Rattle.theorems.proofs.Elder.{Good, good-fit, Room, sweep-good, room-is, put-good}

-- what a collection keeps

only_if-nil : {A : Type 0} (t : Bool) → only_if {A = A} t [] ≡ []
only_if-nil true = refl
only_if-nil false = refl

keep_at : (ps : List Ptr) (i : ℕ) (ss : List (List Cell)) (j : ℕ) → get_or (keep ps i ss) j [] ≡ only_if (keeps ps (i + j)) (get_or ss j [])
unfolding keep
keep_at ps i [] j = sym (only_if-nil (keeps ps (i + j)))
keep_at ps i (s ∷ ss) zero = rw add-zero
keep_at ps i (s ∷ ss) (suc j) = let e : i + suc j ≡ suc i + j = omega arith in rw e (keep_at ps (suc i) ss j)

-- the elder after a collection with members ps
record SweptBy (ps : List Ptr) (e e' : Elder) : Type 0 where
  slots : e'.slots ≡ keep ps 0 e.slots
  colls : e'.colls ≡ suc e.colls

sweep-is : (ps : List Ptr) (e : Elder) → Holds (SweptBy ps e) (sweep ps e)
unfolding sweep
sweep-is ps e = bind' (count_dropped ps 0 e.slots e.bar) _ (λ w _. such (record { slots = refl; colls = refl }))

-- the elder after cells were put at its new base
pub record PutBy (cs : List Cell) (e : Elder) (r : ℕ × Elder) : Type 0 where
  pub base : r.0 ≡ held e.slots
  pub slots : r.1.slots ≡ set e.slots (held e.slots) cs
  pub colls : r.1.colls ≡ e.colls

pub put_is : (cs : List Cell) (e : Elder) → Holds (PutBy cs e) (put cs e)
unfolding put new_base
put_is cs e = bind' (each (count_in 1) cs e.bar) _ (λ w _. such (record { base = refl; slots = refl; colls = refl }))

-- steps one after the other

pub moves_of-append : (l l' : List Step) → moves_of (l ++ l') ≡ moves_of l ++ moves_of l'
unfolding moves_of
moves_of-append [] l' = refl
moves_of-append (move p b x y ∷ l) l' = ap (λ (t : List (Ptr × ℕ)). (p, b) ∷ t) (moves_of-append l l')
moves_of-append (sweeping ps x y ∷ l) l' = moves_of-append l l'

pub sweeps_of-append : (l l' : List Step) → sweeps_of (l ++ l') ≡ sweeps_of l ++ sweeps_of l'
unfolding sweeps_of
sweeps_of-append [] l' = refl
sweeps_of-append (move p b x y ∷ l) l' = sweeps_of-append l l'
sweeps_of-append (sweeping ps x y ∷ l) l' = ap (λ (t : List (List Ptr)). ps ∷ t) (sweeps_of-append l l')

sources-append : (l l' : List (Ptr × ℕ)) → sources (l ++ l') ≡ sources l ++ sources l'
unfolding sources
sources-append l l' = map-append (λ (m : Ptr × ℕ). m.0) l l'

module _ (h : Heap) (roots : List Cell) where
  chain-append : (s : Bool) (e : Elder) (l : List Step) (s' : Bool) (x : Elder) (l' : List Step) (s'' : Bool) (y : Elder) → Chain h roots s e l s' x → Chain h roots s' x l' s'' y → Chain h roots s e (l ++ l') s'' y
  chain-append s e [] s' x l' s'' y c d = rw (c.0, c.1) d
  chain-append s e (move p b u v ∷ l) s' x l' s'' y c d = (c.0, c.1, c.2, chain-append false v l s' x l' s'' y c.3 d)
  chain-append s e (sweeping ps u v ∷ l) s' x l' s'' y c d = (c.0, c.1, c.2, chain-append true v l s' x l' s'' y c.3 d)

  abbrev ms : List ℕ
  ms = masks h.young.bar

  swept : (e r : Elder) → FitElder h.size e → h.size.t ≤ held e.slots → SweptBy (old_members e roots ms) e r → Swept h roots (old_members e roots ms) e r
  unfolding in_use keeps
  swept e r g f q = record {
    full = f;
    visits = x;
    few = omega (arith, old-few e roots ms, g.slots, g.room);
    kept = λ b l. at b ∙ (rw (mem-has same_ptr same_ptr-eq same_ptr-refl (whole 1 b) (old_members e roots ms) (x.complete (whole 1 b) l)));
    dropped = λ b l. at b ∙ away b (mem same_ptr (whole 1 b) (old_members e roots ms)) (λ k. l (x.sound (whole 1 b) (mem-true same_ptr same_ptr-eq same_ptr-refl (whole 1 b) (old_members e roots ms) k)));
    collections = q.colls;
  }
    where
      x : Exact (OldStart h roots e) (OldLeads e) (old_members e roots ms)
      x = old-exact h roots e

      at : (b : ℕ) → get_or r.slots b [] ≡ only_if (keeps (old_members e roots ms) b) (get_or e.slots b [])
      at b = rw q.slots (rw zero-add at (keep_at (old_members e roots ms) 0 e.slots b))

      away : (b : ℕ) (t : Bool) → (t ≡ true → ⊥) → only_if t (get_or e.slots b []) ≡ []
      away b true n = absurd (n refl)
      away b false n = refl

  module _ (fit : FitNursery h.size h.young) where
    -- an allocation's part is as long as its length says
    part_length : (b : ℕ) → length (part h.young b) ≡ get_or h.young.lens b 0
    unfolding part
    part_length b = simp (length-take, length-drop) (go (get_or h.young.lens b 0) refl)
      where
        go : (n : ℕ) → get_or h.young.lens b 0 ≡ n → min n (length h.young.cells - b) ≡ n
        go zero e = omega arith
        go (suc n) e =
            let i = allocation-inside h.young.cursor h.young.lens b fit.tiled (rw e (omega arith)) in
            let j = cursor-le h.young.cursor h.size.n fit.cursor in
            let k : b + suc n ≤ length h.young.cells = omega (arith, (rw e at i), fit.cells) in
            omega arith

    part-valid : (b : ℕ) → Valid (part h.young b)
    unfolding part
    part-valid b c m = all_valid_lem h.young.cells fit.valid c (drop-in b h.young.cells c (take_in (get_or h.young.lens b 0) (drop b h.young.cells) c m))

    copied : (p : Ptr) (e : Elder) (r : ℕ × Elder) → FitElder h.size e → Room h.size (length (part h.young p.base)) e → PutBy (part h.young p.base) e r → Copied h p r.0 e r.1
    unfolding part
    copied p e r g m q = record {
      base = q.base;
      below = omega (arith, q.base, m.base, g.slots);
      long = ap length here ∙ part_length p.base;
      cells = λ i l. rw (here, get_or-take (get_or h.young.lens p.base 0) (drop p.base h.young.cells) i blank l) (get_or-drop p.base h.young.cells i blank);
      others = λ k n. rw q.slots (get_or-set_other e.slots (held e.slots) k (part h.young p.base) [] (λ d. n (d ∙ sym q.base)));
      collections = q.colls;
    }
      where
        here : get_or r.1.slots r.0 [] ≡ part h.young p.base
        here = rw (q.slots, q.base) (get_or-set_same e.slots (held e.slots) (part h.young p.base) [] m.base)

    -- the moves made, and those to make
    module _ (M : Type 0) (own : List Ptr) where
      pub record Made (swept : Bool) (rest : List Ptr) (v : Moving) : Type 0 where
        pub good : Good M h.size v.elder
        pub done : sources (moves_of v.steps) ++ rest ≡ own
        pub chain : Chain h roots false h.old v.steps swept v.elder
        pub colls : v.elder.colls ≡ h.old.colls + length (sweeps_of v.steps)
        pub from : (c : Cell) → Memᴰ c (flat v.elder.slots) → Memᴰ c (flat h.old.slots) ⊎ ((q : Ptr) × Memᴰ q own × Memᴰ c (part h.young q.base))

      -- a collection has just been made, or none is due
      record Ready (rest : List Ptr) (v : Moving) : Type 0 where
        swept-before : Bool
        made : Made swept-before rest v
        due : (swept-before ≡ true) ⊎ (held v.elder.slots < h.size.t)

      collect-made : (rest : List Ptr) (v : Moving) → Made false rest v → Holds (Ready rest) (collect_if_full h.size roots ms v)
      unfolding collect_if_full collect_old moves_of sweeps_of
      collect-made rest v k = go (leb h.size.t (held v.elder.slots)) refl
        where
          ps : List Ptr
          ps = old_members v.elder roots ms

          after : Elder → Moving
          after e = record { elder = e; steps = v.steps ++ sweeping ps v.elder e ∷ [] }

          made : h.size.t ≤ held v.elder.slots → (e : Elder) → Good M h.size e → SweptBy ps v.elder e → Made true rest (after e)
          made f e g q = record {
            good = g;
            done = rw (moves_of-append v.steps (sweeping ps v.elder e ∷ []), append-nil) k.done;
            chain = chain-append false h.old v.steps false v.elder (sweeping ps v.elder e ∷ []) true e k.chain (refl, refl, swept v.elder e (good-fit k.good) f q, (refl, refl));
            colls = rw (sweeps_of-append v.steps (sweeping ps v.elder e ∷ []), length-append) (omega (arith, q.colls, k.colls));
            from = λ c m. k.from c (keep-from ps 0 v.elder.slots c (rw q.slots at m));
          }

          go : (t : Bool) → leb h.size.t (held v.elder.slots) ≡ t → Holds (Ready rest) (elim t [ true ↦ (collect_old v.elder roots ms >>= λ r. ok (record { elder = r.1; steps = v.steps ++ sweeping r.0 v.elder r.1 ∷ [] })) | false ↦ ok v ])
          go true f =
              bind {P = λ r. (r.0 ≡ ps) × Made true rest (after r.1)} _
              (asked 11 (ltb v.elder.colls most) _ (λ l.
              bind _ (both (sweep-good h.size ps v.elder (ltb-true v.elder.colls most l) k.good) (sweep-is ps v.elder)) (λ e g.
              such (refl, made (leb-true h.size.t (held v.elder.slots) f) e g.0 g.1))))
              (λ r m. such (record { swept-before = true; made = rw m.0 m.1; due = inl refl }))
          go false f = such (record { swept-before = false; made = k; due = inr (leb-false h.size.t (held v.elder.slots) f) })

      move-made : (p : Ptr) (rest : List Ptr) (v : Moving) → Made false (p ∷ rest) v → Holds (Made false rest) (move_one h.size h.young roots ms p v)
      unfolding move_one place moves_of sweeps_of sources
      move-made p rest v k =
          bind _ (collect-made (p ∷ rest) v k) (λ u m.
          bind {P = λ r. Good M h.size r.1 × PutBy (part h.young p.base) u.elder r × Copied h p r.0 u.elder r.1} _
          (bind _ (room-is h.size (length (part h.young p.base)) u.elder m.made.good) (λ _ o.
          weaken (both (put-good h.size (part h.young p.base) u.elder (part-valid p.base) m.made.good o) (put_is (part h.young p.base) u.elder)) (λ r g.
          (g.0, g.1, copied p u.elder r (good-fit m.made.good) o g.1))))
          (λ r g. such (step u m r g.0 g.1 g.2)))
        where
          step : (u : Moving) → Ready (p ∷ rest) u → (r : ℕ × Elder) → Good M h.size r.1 → PutBy (part h.young p.base) u.elder r → Copied h p r.0 u.elder r.1
              → Made false rest (record { elder = r.1; steps = u.steps ++ move p r.0 u.elder r.1 ∷ [] })
          step u m r g q c = record {
            good = g;
            done = rw (moves_of-append u.steps (move p r.0 u.elder r.1 ∷ []), sources-append (moves_of u.steps) ((p, r.0) ∷ []), append_assoc) m.made.done;
            chain = chain-append false h.old u.steps m.swept-before u.elder (move p r.0 u.elder r.1 ∷ []) false r.1 m.made.chain (refl, m.due, c, (refl, refl));
            colls = rw (sweeps_of-append u.steps (move p r.0 u.elder r.1 ∷ []), append-nil) (q.colls ∙ m.made.colls);
            from = λ x n. ⊎_elim (m.made.from x) (λ j. inr (p, rw m.made.done at (Memᴰ.append_right (sources (moves_of u.steps)) (Memᴰ.head {x = p} {xs = rest} refl)), j)) (set-from u.elder.slots (held u.elder.slots) (part h.young p.base) (rw q.slots at n));
          }

      pub moves : Good M h.size h.old → Holds (Made false []) (each (move_one h.size h.young roots ms) own (record { elder = h.old; steps = [] }))
      unfolding sources moves_of sweeps_of
      moves g = each_holds (Made false) (move_one h.size h.young roots ms) move-made own _ (record { good = g; done = refl; chain = (refl, refl); colls = sym (add-zero h.old.colls); from = λ c m. inl m })
