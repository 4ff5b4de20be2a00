-- The loop over the survivors: what is done so far, and what the next call asks.
use mathlib.Core.Path.{◌≡◌, refl, sym, ap, ◌∙◌}
use mathlib.Core.Bool.{true, false, true≢false}
use mathlib.Core.List.{List, [], ◌∷◌, ◌++◌, Memᴰ}
use Prim.Native.Nat.{ℕ, zero, suc, ◌+◌, ◌*◌, ◌-◌, ◌/◌, ◌^◌, ◌≤◌, ◌<◌}
use native.Mathlib.Nat.{zero-add, add-zero, add-suc, suc-add, suc-mul, mul-le-mul, not-suc-le-zero, le_of_suc-le-suc}
use native.Mathlib.Numerals.{add-one}
use native.Mathlib.Omega.{arith}
use lib.ListN.{length, get_or, set, drop, length-set}
use lib.Seq.{get_or-drop, get_or-set_same, get_or-set_other, take-set-le}
use Rattle.model.specs.Res.{Res, ok, refuse, ◌>>=◌, each}
use Rattle.model.specs.Records.{Ptr, whole}
use Rattle.model.specs.Barrier.{masks}
use Rattle.model.specs.Heap.{Sizes, Heap}
use Rattle.model.specs.Image.{image_length, sizes_of, decode}
use Rattle.model.specs.Calls.{cells_in, scratch_length}
use Rattle.theorems.specs.Fit.{Image}
use Rattle.theorems.specs.Does.{Does}
use Rattle.theorems.proofs.Does.{answered, does-then, does-refused, does-same}
use Rattle.theorems.proofs.Image.{encode-length}
use Rattle.theorems.proofs.Res.{holds_at}
use Rattle.trace.specs.Words.{tab, ptr_of, ptr_at, members}
use Rattle.trace.specs.declared.Member.{Member}
use Rattle.trace.proofs.Entries.{tab-cons, length-members}
use Rattle.trace.proofs.Places.{in-length}
use Rattle.slots.proofs.Parts.{lent, lent_is, lent_length}
use Rattle.survivors.proofs.Entries.{tab-append}
use Rattle.fields.proofs.Parts.{sized-in}
use Rattle.nursery.specs.Steps as nursery
use Rattle.nursery.specs.declared.Collected.{Collected}
use Rattle.question.specs.Question.{number}
use Rattle.question.specs.declared.Question.{Question}
use Rattle.std.proofs.Common.{Result, Ok, Err}
use Rattle.pointers.specs.Steps.{move_at, moves_in}
use Rattle.cycle.specs.declared.turns.Request.{Request}
use Rattle.cycle.specs.declared.turns.Request.TheVariants.{New, Move}
use Rattle.cycle.specs.declared.turns.Gave.{Gave}
use Rattle.cycle.specs.declared.turns.Work.{Work}
use Rattle.cycle.specs.Scratch.{bases_at, old_list_at, parts_in, Saved, Front, CollectedIn}
use Rattle.cycle.specs.Turns.{Turn, Pushed, none, noted, finished, push_one, elder_turn, again_turn, collect_and_push, push_turn, turn}
use Rattle.cycle.specs.Outcomes.{Asked, Ready, Ran, outcome_answer, gave_turn, finished_gave, kept_to}
use Rattle.cycle.proofs.Doing.{map_res, map_gave, does-map, does-none, does-more, does-stop}
use Rattle.cycle.proofs.Frames.{front_less, word_same, young-same, parts_same, saved-same, moves-same, members-more, moves_more}
use Rattle.cycle.proofs.Turning.{Small, elder-small, turn-elder, turn-again, Survive, Survived, collected-survive}

tab-in : {A : Type 0} (f : ℕ → A) (i n k : ℕ) → k < n → Memᴰ (f (i + k)) (tab f i n)
unfolding tab
tab-in f i zero k l = absurd (not-suc-le-zero l)
tab-in f i (suc n) zero l = Memᴰ.head (ap f (add-zero i))
tab-in f i (suc n) (suc k) l = let m : Memᴰ (f (i + suc k)) (tab f (suc i) n) = rw add-suc (rw suc-add at (tab-in f (suc i) n k (le_of_suc-le-suc l))) in Memᴰ.tail m

-- what the survivors got so far stands in scratch and in the tally
unfoldable pub pushed_in : Sizes → ℕ → ℕ → List ℕ → Work → Pushed
pushed_in z r i x tally = record { moves = moves_in i (drop (image_length z) x) (drop (bases_at z r) x); sweeps = tally.collections; entered = tally.visits }

member-in : (n : ℕ) (w : List ℕ) (i : ℕ) → i < n → Memᴰ (ptr_at w i) (members n w)
unfolding members
member-in n w i l = rw zero-add at (tab-in (ptr_at w) 0 n i l)

members-split : (n : ℕ) (w : List ℕ) (i : ℕ) → i < n → members n w ≡ members i w ++ ptr_at w i ∷ tab (ptr_at w) (i + 1) (n - (i + 1))
unfolding members
members-split n w i l =
    let e : n ≡ i + (n - i) = omega arith in
    ap (tab (ptr_at w) 0) e ∙ tab-append (ptr_at w) 0 i (n - i) ∙ rw (zero-add, tab-cons (ptr_at w) i n l)

-- the nursery was collected: u is the image then, t scratch
pub record Begun (w roots s : List ℕ) (what : Request) (c : Collected) (u t : List ℕ) : Type 0 where
  pub ready : Ready w roots s what 2 false
  pub collected : CollectedIn w roots s (Ok c) u t
  pub long : length t ≡ length s

-- i survivors were pushed: v is the image now, x scratch
pub record Pushing (w roots ms s : List ℕ) (moved : ℕ) (u t v x : List ℕ) (tally : Work) (i : ℕ) : Type 0 where
  pub few : i ≤ moved
  pub image : Image v (decode v)
  pub sizes : (decode v).size ≡ (decode w).size
  pub long : length x ≡ length s
  pub front : Front (image_length (decode w).size) s x
  pub list : (j : ℕ) → j < 3 * moved → get_or (drop (image_length (decode w).size) x) j 0 ≡ get_or (drop (image_length (decode w).size) t) j 0
  pub does : Does (λ h. each (push_one (parts_in (decode w).size s) (cells_in roots) ms) (members i (drop (image_length (decode w).size) t)) (none, h)) u (ok (pushed_in (decode w).size (length roots / 3) i x tally)) v
  pub sweeps : tally.collections ≤ i
  pub entered : tally.visits ≤ i * (length roots / 3 + (decode w).size.s + (decode w).size.c)

module _ {w roots s : List ℕ} {what : Request} {c : Collected} {u t : List ℕ} (b : Begun w roots s what c u t) where
  abbrev moved : ℕ
  moved = c.survivors

  abbrev visits : ℕ
  visits = c.visits

  abbrev z : Sizes
  z = (decode w).size

  abbrev survivors_in : List Ptr
  survivors_in = members moved (drop (image_length z) t)

  first : (x : (ℕ × List Ptr) × Heap) × (nursery.collect_step (cells_in roots) (masks (decode w).old.bar) (decode w) ≡ ok x) × ((visits, survivors_in) ≡ x.0) × (decode u ≡ x.1) × Image u (decode u)
  first = answered b.ready.image b.collected.does

  told : Survived (decode w) (length (cells_in roots)) first.0
  told = holds_at (collected-survive (cells_in roots) (masks (decode w).old.bar) (decode w) b.ready.image.fit) first.1

  survive : Survive (decode w) (length roots / 3) survivors_in
  survive =
      let e : survivors_in ≡ first.0.0.1 = ap (λ (p : ℕ × List Ptr). p.1) first.2 in
      rw (e, ← in-length roots) told.1

  pub few-moved : moved ≤ length roots / 3 + 2 * z.n
  few-moved = omega (arith, survive.few, length-members moved (drop (image_length z) t))

  few-roots : length roots / 3 ≤ 4096
  few-roots = omega (arith, b.ready.few)

  n-small : z.n ≤ 2048
  unfolding decode sizes_of
  n-small = (sized-in b.ready.image).bounds.n

  s-small : z.s ≤ 8192
  unfolding decode sizes_of
  s-small = (sized-in b.ready.image).bounds.s

  c-small : z.c ≤ 65536
  unfolding decode sizes_of
  c-small = (sized-in b.ready.image).bounds.c

  pub pushing-none : {ms : List ℕ} → Pushing w roots ms s moved u t u t (record { collections = 0; visits = 0 }) 0
  unfolding members tab pushed_in moves_in none
  pushing-none {ms} = record {
    few = omega arith;
    image = first.4;
    sizes = ap (λ (h : Heap). h.size) first.3 ∙ told.0;
    long = b.long;
    front = b.collected.front;
    list = λ j l. refl;
    does = does-none (push_one (parts_in z s) (cells_in roots) ms) none;
    sweeps = omega arith;
    entered = omega arith;
  }

  -- what follows the nursery's collection, and the pushes

  then-again : List ℕ → Pushed → Heap → Res (Turn × Heap)
  then-again ms m h = again_turn (parts_in z s) (cells_in roots) ms what h >>= λ y. ok (finished visits m y.0, y.1)

  then-push : List ℕ → ℕ × List Ptr → Heap → Res (Turn × Heap)
  then-push ms k h = each (push_one (parts_in z s) (cells_in roots) ms) k.1 (none, h) >>= λ m. again_turn (parts_in z s) (cells_in roots) ms what m.1 >>= λ y. ok (finished k.0 m.0 y.0, y.1)

  module _ {ms v x : List ℕ} {tally : Work} {i : ℕ} (p : Pushing w roots ms s moved u t v x tally i) where
    length-is : length v ≡ image_length z
    length-is = ap length p.image.is ∙ encode-length (decode v) p.image.fit ∙ ap image_length p.sizes

    pub saved-now : Saved (decode v).size x
    saved-now = rw p.sizes (saved-same p.front (omega arith) p.long b.ready.saved)

    pub room-now : scratch_length (decode v).size (length roots / 3) ≤ length x
    room-now = rw p.sizes (omega (arith, b.ready.room, p.long))

    -- the next survivor
    module _ (more : i < moved) where
      pub survivor-inside : length v + (3 * i + 2) < length x
      unfolding scratch_length
      survivor-inside = omega (arith, length-is, few-moved, b.ready.room, p.long)

      abbrev next : Ptr
      next = ptr_at (drop (image_length z) t) i

      next-in : Memᴰ next survivors_in
      next-in = member-in moved (drop (image_length z) t) i more

      base-is : get_or x (length v + (3 * i + 1)) 0 ≡ next.base
      unfolding ptr_at
      base-is = rw length-is (sym (get_or-drop (image_length z) x (3 * i + 1) 0) ∙ p.list (3 * i + 1) (omega arith))

      pub ready-move : Ready v roots x (Move (get_or x (length v + (3 * i + 1)) 0)) 1 false
      ready-move = record {
        image = p.image;
        few = b.ready.few;
        room = room-now;
        saved = saved-now;
        asked = rw (p.sizes, base-is, young-same p.front z (omega arith), b.ready.first refl refl) (survive.allocated next next-in);
        last = omega arith;
        some = omega arith;
        first = λ e. absurd (omega arith);
      }

      -- its turn
      module _ {o : Result Gave Question} {v' x' : List ℕ} (d : Ran (turn (parts_in (decode v).size x) (cells_in roots) ms (Move (get_or x (length v + (3 * i + 1)) 0)) 1 false) 1 false v roots x o v' x') (long' : length x' ≡ length x) where
        pushed : Does (elder_turn (parts_in z s) (cells_in roots) ms (Move next.base)) v (outcome_answer z (length roots / 3) x' o) v'
        pushed =
            rw (← p.sizes)
            (does-same (λ h k. rw (p.sizes, base-is, parts_same p.front z (omega arith)) (turn-elder (parts_in z s) (cells_in roots) ms (Move next.base) h)) d.does)

        kept : Front (old_list_at z (length roots / 3)) x x'
        unfolding kept_to
        kept = rw (← p.sizes) d.front

        -- refused: so is the whole list
        pub pushing-stop : (q : Question) → o ≡ Err q → Does (λ h. each (push_one (parts_in z s) (cells_in roots) ms) survivors_in (none, h)) u (refuse (number q)) v'
        unfolding push_one
        pushing-stop q e =
            rw (members-split moved (drop (image_length z) t) i more)
            (does-stop (push_one (parts_in z s) (cells_in roots) ms) none (members i (drop (image_length z) t)) p.does next (tab (ptr_at (drop (image_length z) t)) (i + 1) (moved - (i + 1))) (does-map (λ y. noted next y (pushed_in z (length roots / 3) i x tally)) (rw e at pushed)))

        pub pushing-refused : (q : Question) → o ≡ Err q → Ran (push_turn (parts_in z s) (cells_in roots) ms what 2 false) 2 false w roots s o v' x'
        unfolding push_turn collect_and_push kept_to then-push then-again
        pushing-refused q e =
            record {
              does = rw e (does-then (then-push ms) b.collected.does (does-refused (then-again ms) {v = v'} (pushing-stop q e)));
              front = record { same = (front_less kept {m = image_length z} (omega arith)).same ∙ p.front.same };
            }

        -- answered
        module _ (g : Gave) (e : o ≡ Ok g) where
          went : (y : Turn × Heap) × (elder_turn (parts_in z s) (cells_in roots) ms (Move next.base) (decode v) ≡ ok y) × (gave_turn z (length roots / 3) x' g ≡ y.0) × (decode v' ≡ y.1) × Image v' (decode v')
          went = answered p.image (rw e at pushed)

          small : Small (decode v) (length (cells_in roots)) went.0
          small = holds_at (elder-small (parts_in z s) (cells_in roots) ms (Move next.base) (decode v) p.image.fit) went.1

          sizes' : (decode v').size ≡ z
          sizes' = ap (λ (h : Heap). h.size) went.3 ∙ small.sizes ∙ p.sizes

          one : g.elder.collections ≤ 1
          unfolding gave_turn
          one = let k : g.elder.collections ≡ went.0.0.sweeps = ap (λ (y : Turn). y.sweeps) went.2 in omega (arith, small.sweeps)

          within : g.elder.visits ≤ length roots / 3 + z.s + z.c
          unfolding gave_turn
          within =
              let k : g.elder.visits ≡ went.0.0.entered = ap (λ (y : Turn). y.entered) went.2 in
              let l : went.0.0.entered ≤ length roots / 3 + z.s + z.c = rw (← p.sizes, ← in-length roots) small.entered in
              omega arith

          pub note-asks : (Image v' (decode v')) × (old_list_at (decode v').size (length roots / 3) ≤ length x') × (i < length roots / 3 + 2 * (decode v').size.n) × (tally.collections + g.elder.collections < 2 ^ 64) × (tally.visits + g.elder.visits < 2 ^ 64)
          unfolding scratch_length
          note-asks =
              (went.4, rw sizes' (omega (arith, long', p.long, b.ready.room)), rw sizes' (omega (arith, few-moved)), omega (arith, p.sweeps, one, few-moved, p.few, few-roots, n-small), omega (arith, p.entered, within, mul-le-mul {n₁ = i} {m₁ = length roots / 3 + z.s + z.c} {n₂ = 8192} {m₂ = 77824} (omega (arith, few-moved, few-roots, n-small)) (omega (arith, few-roots, s-small, c-small)), few-roots, s-small, c-small))

          -- one more
          module _ {x'' : List ℕ} (written : x'' ≡ set x' (bases_at (decode v').size (length roots / 3) + i) g.base) (tally' : Work) (counts : (tally'.collections ≡ tally.collections + g.elder.collections) × (tally'.visits ≡ tally.visits + g.elder.visits)) where
            at_base : x'' ≡ set x' (bases_at z (length roots / 3) + i) g.base
            at_base = rw (← sizes') written

            -- words before the new base
            before-base : (j : ℕ) → j < bases_at z (length roots / 3) + i → get_or x'' j 0 ≡ get_or x j 0
            before-base j l = rw at_base (get_or-set_other x' (bases_at z (length roots / 3) + i) j g.base 0 (λ e. omega arith) ∙ word_same kept j (omega (arith, few-moved)))

            new-base : get_or x'' (bases_at z (length roots / 3) + i) 0 ≡ g.base
            unfolding scratch_length
            new-base = rw at_base (get_or-set_same x' (bases_at z (length roots / 3) + i) g.base 0 (omega (arith, long', p.long, b.ready.room, few-moved)))

            in_list : (j : ℕ) → j < 3 * moved → get_or (drop (image_length z) x'') j 0 ≡ get_or (drop (image_length z) x) j 0
            in_list j l = get_or-drop (image_length z) x'' j 0 ∙ before-base (image_length z + j) (omega (arith, few-moved)) ∙ sym (get_or-drop (image_length z) x j 0)

            moved_more : moves_in i (drop (image_length z) x) (drop (bases_at z (length roots / 3)) x) ++ (next, g.base) ∷ [] ≡ moves_in (i + 1) (drop (image_length z) x'') (drop (bases_at z (length roots / 3)) x'')
            unfolding move_at ptr_at
            moved_more =
                let young : next.heap ≡ 0 = survive.young next next-in in
                let entry : (j : ℕ) → j < 3 * moved → get_or (drop (image_length z) x'') j 0 ≡ get_or (drop (image_length z) t) j 0 = λ j l. in_list j l ∙ p.list j l in
                let same : moves_in i (drop (image_length z) x'') (drop (bases_at z (length roots / 3)) x'') ≡ moves_in i (drop (image_length z) x) (drop (bases_at z (length roots / 3)) x) =
                moves-same i (drop (image_length z) x'') (drop (image_length z) x) (λ j l. in_list j (omega arith)) (drop (bases_at z (length roots / 3)) x'') (drop (bases_at z (length roots / 3)) x)
                (λ j l. get_or-drop (bases_at z (length roots / 3)) x'' j 0 ∙ before-base (bases_at z (length roots / 3) + j) (omega arith) ∙ sym (get_or-drop (bases_at z (length roots / 3)) x j 0)) in
                let new : move_at (drop (image_length z) x'') (drop (bases_at z (length roots / 3)) x'') i ≡ (next, g.base) =
                λ k. (record { heap = sym young k; base = entry (3 * i + 1) (omega arith) k; off = entry (3 * i + 2) (omega arith) k }, (get_or-drop (bases_at z (length roots / 3)) x'' i 0 ∙ new-base) k) in
                sym (moves_more i (drop (image_length z) x'') (drop (bases_at z (length roots / 3)) x'') ∙ rw (same, new) refl)

            pushed_more : noted next (gave_turn z (length roots / 3) x' g) (pushed_in z (length roots / 3) i x tally) ≡ pushed_in z (length roots / 3) (i + 1) x'' tally'
            unfolding noted gave_turn pushed_in whole
            pushed_more = λ k. record { moves = moved_more k; sweeps = sym counts.0 k; entered = sym counts.1 k }

            pub pushing-more : Pushing w roots ms s moved u t v' x'' tally' (i + 1)
            unfolding push_one
            pushing-more = record {
              few = omega arith;
              image = went.4;
              sizes = sizes';
              long = rw at_base (length-set x' (bases_at z (length roots / 3) + i) g.base) ∙ long' ∙ p.long;
              front = record { same = rw at_base (take-set-le (image_length z) x' (bases_at z (length roots / 3) + i) g.base (omega arith)) ∙ (front_less kept {m = image_length z} (omega arith)).same ∙ p.front.same };
              list = λ j l. in_list j l ∙ p.list j l;
              does = rw (members-more i (drop (image_length z) t), ← pushed_more) (does-more (push_one (parts_in z s) (cells_in roots) ms) none (members i (drop (image_length z) t)) p.does next (does-map (λ y. noted next y (pushed_in z (length roots / 3) i x tally)) (rw e at pushed)));
              sweeps = omega (arith, counts.0, p.sweeps, one);
              entered = rw (add-one, suc-mul) (omega (arith, counts.1, p.entered, within));
            }

    -- all are pushed: the request again
    module _ (all : moved ≤ i) where
      pub ready-again : Ready v roots x what 2 true
      ready-again = record {
        image = p.image;
        few = b.ready.few;
        room = room-now;
        saved = saved-now;
        asked = asked-now what b.ready.asked;
        last = omega arith;
        some = omega arith;
        first = λ e f. absurd (true≢false f);
      }
        where
          asked-now : (q : Request) → Asked q z s → Asked q (decode v).size x
          asked-now (New a) k = k
          asked-now (Move c) k = rw (p.sizes, young-same p.front z (omega arith)) k

      module _ {o : Result Gave Question} {v' x' : List ℕ} (d : Ran (turn (parts_in (decode v).size x) (cells_in roots) ms what 2 true) 2 true v roots x o v' x') where
        again : Does (again_turn (parts_in z s) (cells_in roots) ms what) v (outcome_answer z (length roots / 3) x' o) v'
        again = rw (← p.sizes) (does-same (λ h k. rw (p.sizes, parts_same p.front z (omega arith)) (turn-again (parts_in z s) (cells_in roots) ms what h)) d.does)

        kept_again : Front (old_list_at z (length roots / 3)) x x'
        unfolding kept_to
        kept_again = rw (← p.sizes) d.front

        moves-kept : moves_in moved (drop (image_length z) x) (drop (bases_at z (length roots / 3)) x) ≡ moves_in moved (drop (image_length z) x') (drop (bases_at z (length roots / 3)) x')
        moves-kept =
            sym (moves-same moved (drop (image_length z) x') (drop (image_length z) x) (λ j l. get_or-drop (image_length z) x' j 0 ∙ word_same kept_again (image_length z + j) (omega (arith, few-moved)) ∙ sym (get_or-drop (image_length z) x j 0))
            (drop (bases_at z (length roots / 3)) x') (drop (bases_at z (length roots / 3)) x) (λ j l. get_or-drop (bases_at z (length roots / 3)) x' j 0 ∙ word_same kept_again (bases_at z (length roots / 3) + j) (omega (arith, few-moved)) ∙ sym (get_or-drop (bases_at z (length roots / 3)) x j 0)))

        finished-is : (q : Result Gave Question) → map_res (finished visits (pushed_in z (length roots / 3) moved x tally)) (outcome_answer z (length roots / 3) x' q) ≡ outcome_answer z (length roots / 3) x' (map_gave (λ g. finished_gave g c tally) q)
        unfolding finished pushed_in gave_turn finished_gave
        finished-is (Ok g) = λ k. ok (record { ptr = whole g.heap g.base; visits = visits; moves = moves-kept k; sweeps = tally.collections; entered = tally.visits })
        finished-is (Err q) = refl

        pub pushing-done : Ran (push_turn (parts_in z s) (cells_in roots) ms what 2 false) 2 false w roots s (map_gave (λ g. finished_gave g c tally) o) v' x'
        unfolding push_turn collect_and_push kept_to then-push then-again
        pushing-done =
            let e : i ≡ moved = omega (arith, p.few) in
            record {
              does = rw (← finished-is o) (does-then (then-push ms) b.collected.does (does-then (then-again ms) (rw e at p.does) (does-map (finished visits (pushed_in z (length roots / 3) moved x tally)) again)));
              front = record { same = (front_less kept_again {m = image_length z} (omega arith)).same ∙ p.front.same };
            }
