-- What is no member is dropped, and the rest packed.
use mathlib.Core.Path.{◌≡◌, refl, sym, ap, ◌∙◌}
use mathlib.Core.Bool.{Bool, true, false}
use mathlib.Core.List.{List, [], ◌∷◌, ◌++◌, map, append_assoc, append-nil}
use Prim.Native.Nat.{ℕ, zero, suc, ◌+◌, ◌-◌, ◌*◌, ◌≤◌, ◌<◌}
use native.Mathlib.Numerals.{add-one}
use native.Mathlib.Nat.{not-suc-le-zero, le_of_suc-le-suc, zero-add}
use native.Mathlib.Omega.{arith}
use lib.ListN.{length, get_or, set, take, drop, replicate, length-append, length-drop, length-set, get_or-map, drop_of_length-le, take-append-drop}
use lib.Seq.{paste, paste-zero, set-get_or, length-take-le, set_at, drop-drop, drop-cons, get_or-take, get_or_at, take_all, take-paste, length-paste}
use Rattle.model.specs.Lists.{flat, only_if}
use Rattle.model.specs.Reach.{mem}
use Rattle.model.specs.Records.{Ptr, Cell, cell_words, whole, same_ptr}
use Rattle.model.specs.Heap.{in_use}
use Rattle.model.specs.Elder.{keeps, keep}
use Rattle.theorems.proofs.Contents.{valid-all, all_valid_lem, keep-from}
use Rattle.theorems.proofs.Elder.{flat_keep, keep-length}
use Rattle.words.specs.Words.{padded}
use Rattle.words.proofs.Laws.{drop_past, zeroed}
use Rattle.slots.specs.declared.Slots.{Slots}
use Rattle.slots.specs.Slots.{Elder, Changed, Same, between, stepped, stepped_to}
use Rattle.slots.proofs.Flat.{flat_append, words_append, use-next, use-take, use-split, map-set}
use Rattle.slots.proofs.Counts.{packed-rest, slots_length}
use Rattle.slots.proofs.Parts.{lent, returned, lent_is, lent_length, returned-is, take_put, drop-put, between_put, length-put, take-store, drop-store, between-store}
use Rattle.slots.proofs.Changes.{changed}
use Rattle.slots.proofs.Places.{at_slot}

-- `pack_one`

-- `keeps`, as `trace::find` answers it of the allocation's first cell
pub keeps-found : (ps : List Ptr) (b : ℕ) {m : Ptr} → m ≡ whole 1 b → {r : Bool} → r ≡ mem same_ptr m ps → r ≡ keeps ps b
unfolding keeps
keeps-found ps b d e = rw (← d, e)

module _ (w : List ℕ) (at b src dst : ℕ) where
  pub step-none : (t : Bool) → at ≤ length w → 3 * get_or w b 0 ≡ 0 → w ≡ stepped t at b src dst (get_or w b 0 * 3) w
  unfolding stepped
  step-none true h e =
      let none : get_or w b 0 * 3 ≡ 0 = omega arith in
      rw (none, ← paste-zero (drop at w) dst (drop src (drop at w))) (sym (take-append-drop at w))
  step-none false h e = let none : 0 ≡ get_or w b 0 = omega arith in rw (none, set-get_or w b 0)

  pub step-keep : (ps : List Ptr) {m : Ptr} → m ≡ whole 1 b → {r : Bool} → r ≡ mem same_ptr m ps → r ≡ true → at ≤ length w → {ys : List ℕ} → ys ≡ paste (lent at w) dst (drop src (lent at w)) (3 * get_or w b 0)
      → returned at w ys ≡ stepped (keeps ps b) at b src dst (get_or w b 0 * 3) w
  unfolding stepped
  step-keep ps d e q h {ys} p =
      let x : 3 * get_or w b 0 ≡ get_or w b 0 * 3 = omega arith in
      rw (← keeps-found ps b d e, q, returned-is w at h ys, p, lent_is w at h, x)

  pub step-drop : (ps : List Ptr) {m : Ptr} → m ≡ whole 1 b → {r : Bool} → r ≡ mem same_ptr m ps → r ≡ false → set w b 0 ≡ stepped (keeps ps b) at b src dst (get_or w b 0 * 3) w
  unfolding stepped
  step-drop ps d e q = rw (← keeps-found ps b d e, q)

  -- the move's room in the tail

  pub step_room : at ≤ length w → dst ≤ src → src + get_or w b 0 * 3 ≤ length w - at → dst + 3 * get_or w b 0 ≤ length (lent at w)
  step_room h k r = omega (arith, lent_length w at h)

  pub step-source : at ≤ length w → src + get_or w b 0 * 3 ≤ length w - at → src + 3 * get_or w b 0 ≤ length (lent at w)
  step-source h r = omega (arith, lent_length w at h)

  -- where the kept words end

  pub to_none : (t : Bool) → 3 * get_or w b 0 ≡ 0 → dst ≡ stepped_to t dst (get_or w b 0 * 3)
  unfolding stepped_to
  to_none true e = omega arith
  to_none false e = refl

  pub to-keep : (ps : List Ptr) {m : Ptr} → m ≡ whole 1 b → {r : Bool} → r ≡ mem same_ptr m ps → r ≡ true → dst + 3 * get_or w b 0 ≡ stepped_to (keeps ps b) dst (get_or w b 0 * 3)
  unfolding stepped_to
  to-keep ps d e q = rw (← keeps-found ps b d e, q) (omega arith)

  pub to_drop : (ps : List Ptr) {m : Ptr} → m ≡ whole 1 b → {r : Bool} → r ≡ mem same_ptr m ps → r ≡ false → dst ≡ stepped_to (keeps ps b) dst (get_or w b 0 * 3)
  unfolding stepped_to
  to_drop ps d e q = rw (← keeps-found ps b d e, q)

-- `keep`, one slot more

keep-next : (ps : List Ptr) (i : ℕ) (ss : List (List Cell)) (b : ℕ) → b < length ss → keep ps i (take (b + 1) ss) ≡ keep ps i (take b ss) ++ (only_if (keeps ps (i + b)) (get_or ss b []) ∷ [])
unfolding keep
keep-next ps i ss b h = rw (add-one b) (go i ss b h)
  where
    go : (i : ℕ) (ss : List (List Cell)) (b : ℕ) → b < length ss → keep ps i (take (suc b) ss) ≡ keep ps i (take b ss) ++ (only_if (keeps ps (i + b)) (get_or ss b []) ∷ [])
    go i [] b h = absurd (not-suc-le-zero h)
    go i (s ∷ ss) zero h = let e : i + 0 ≡ i = omega arith in rw e
    go i (s ∷ ss) (suc b) h = let e : i + suc b ≡ suc i + b = omega arith in rw (e, go (suc i) ss b (le_of_suc-le-suc h))

keep-less : (ps : List Ptr) (ss : List (List Cell)) → in_use (keep ps 0 ss) ≤ in_use ss
unfolding in_use
keep-less ps ss = flat_keep length refl length-append ps 0 ss

-- `pack`: b slots are packed, and the words from src on are as they were

pub record Packing (ps : List Ptr) (ss : List (List Cell)) (s at : ℕ) (w₀ w : List ℕ) (b src dst : ℕ) : Type 0 where
  pub within : b ≤ s
  pub start : Elder s at w₀ ss
  pub len : length w ≡ length w₀
  pub src-is : src ≡ in_use (take b ss) * 3
  pub dst-is : dst ≡ in_use (keep ps 0 (take b ss)) * 3
  pub lens : take s w ≡ map length (keep ps 0 (take b ss) ++ drop b ss)
  pub front : take dst (drop at w) ≡ cell_words (flat (keep ps 0 (take b ss)))
  pub rest : drop src (drop at w) ≡ drop src (drop at w₀)
  pub same : between s at w ≡ between s at w₀

pub pack-begin : (ps : List Ptr) (ss : List (List Cell)) (s at : ℕ) (w : List ℕ) → Elder s at w ss → Packing ps ss s at w w 0 0 0
unfolding keep in_use flat cell_words
pack-begin ps ss s at w v = record { within = omega arith; start = v; len = refl; src-is = refl; dst-is = refl; lens = v.packed.lens; front = refl; rest = refl; same = refl }

module _ {ps : List Ptr} {ss : List (List Cell)} {s at : ℕ} {w₀ w : List ℕ} {b src dst : ℕ} (v : Packing ps ss s at w₀ w b src dst) where
  pub pack-inside : at ≤ length w
  pack-inside = omega (arith, v.len, v.start.inside)

  pub pack-below : b < s → b < at
  pack-below h = omega (arith, v.start.order)

  pub pack-behind : dst ≤ src
  pack-behind = omega (arith, v.src-is, v.dst-is, keep-less ps (take b ss))

  module _ (h : b < s) where
    bs : b < length ss
    bs = omega (arith, slots_length v.start)

    abbrev k : List (List Cell)
    k = keep ps 0 (take b ss)

    abbrev n : ℕ
    n = get_or w b 0 * 3

    k-length : length k ≡ b
    k-length = keep-length ps 0 (take b ss) ∙ length-take-le b ss (omega (arith, bs))

    -- the slot at b is still there, whole

    rest-slots : drop b ss ≡ get_or ss b [] ∷ drop (b + 1) ss
    rest-slots = rw (add-one b) (drop-cons ss b [] bs)

    slot-length : get_or w b 0 ≡ length (get_or ss b [])
    slot-length =
        sym (get_or-take s w b 0 h) ∙ rw (v.lens, rest-slots) (get_or-map length (k ++ get_or ss b [] ∷ drop (b + 1) ss) b [] ∙ ap length (get_or_at k (get_or ss b []) (drop (b + 1) ss) [] b k-length))

    slot-words : take n (drop src (drop at w)) ≡ cell_words (get_or ss b [])
    slot-words =
        ap (take n) v.rest
        ∙ at_slot (drop at w₀) ss b bs v.start.packed.cells src n (in_use ss * 3) v.src-is (ap (λ (i : ℕ). i * 3) slot-length) refl

    pub pack-room : src + get_or w b 0 * 3 ≤ length w - at
    pack-room = omega (arith, v.src-is, slot-length, use-split ss b bs, v.start.packed.fits, length-drop at w₀, v.len)

    next-src : src + n ≡ in_use (take (b + 1) ss) * 3
    next-src = rw (add-one b) (omega (arith, v.src-is, slot-length, use-next ss b bs))

    next-rest : drop (src + n) (drop at w) ≡ drop (src + n) (drop at w₀)
    next-rest = sym (drop-drop n src (drop at w)) ∙ ap (drop n) v.rest ∙ drop-drop n src (drop at w₀)

    -- one slot x more
    module _ (x : List Cell) (q : keep ps 0 (take (b + 1) ss) ≡ k ++ (x ∷ [])) where
      next-flat : flat (keep ps 0 (take (b + 1) ss)) ≡ flat k ++ x
      unfolding flat
      next-flat = rw (q, flat_append k (x ∷ []), append-nil x)

      next-use : in_use (keep ps 0 (take (b + 1) ss)) ≡ in_use k + length x
      unfolding in_use
      next-use = rw next-flat (length-append (flat k) x)

      next-slots : k ++ x ∷ drop (b + 1) ss ≡ keep ps 0 (take (b + 1) ss) ++ drop (b + 1) ss
      next-slots = rw q (sym (append_assoc k (x ∷ []) (drop (b + 1) ss)))

    pack-drop : (d : List ℕ) → d ≡ set w b 0 → keep ps 0 (take (b + 1) ss) ≡ k ++ ([] ∷ []) → Packing ps ss s at w₀ d (b + 1) (src + n) dst
    pack-drop d e q =
        let g : drop at d ≡ drop at w = ap (drop at) e ∙ drop-store w s at b 0 h v.start.order in
        record {
          within = omega arith;
          start = v.start;
          len = ap length e ∙ length-set w b 0 ∙ v.len;
          src-is = next-src;
          dst-is = omega (arith, v.dst-is, next-use [] q);
          lens = ap (take s) e
              ∙ take-store w s at b 0 h v.start.order
              ∙ rw (v.lens, rest-slots, ← map-set length (k ++ get_or ss b [] ∷ drop (b + 1) ss) b [], set_at k (get_or ss b []) (drop (b + 1) ss) [] b k-length, next-slots [] q) refl;
          front = rw (g, next-flat [] q, append-nil (flat k)) v.front;
          rest = rw g next-rest;
          same = ap (between s at) e ∙ between-store w s at b 0 h v.start.order ∙ v.same;
        }

    pack-keep : (d : List ℕ) → d ≡ take at w ++ paste (drop at w) dst (drop src (drop at w)) n → keep ps 0 (take (b + 1) ss) ≡ k ++ (get_or ss b [] ∷ []) → Packing ps ss s at w₀ d (b + 1) (src + n) (dst + n)
    pack-keep d e q =
        let x : List Cell = get_or ss b [] in
        let c : List ℕ = drop at w in
        let ys : List ℕ = paste c dst (drop src c) n in
        let lc : length c ≡ length w - at = length-drop at w in
        let r : dst + n ≤ length c = omega (arith, pack-room, pack-behind) in
        let f : n ≤ length (drop src c) = omega (arith, pack-room, length-drop src c) in
        let g : drop at d ≡ ys = ap (drop at) e ∙ drop-put w at pack-inside ys in
        record {
          within = omega arith;
          start = v.start;
          len = ap length e ∙ length-put w at pack-inside ys (length-paste c dst (drop src c) n r f) ∙ v.len;
          src-is = next-src;
          dst-is = omega (arith, v.dst-is, next-use x q, slot-length);
          lens = ap (take s) e ∙ take_put w at pack-inside ys s v.start.order ∙ rw (v.lens, rest-slots, next-slots x q) refl;
          front = rw (g, take-paste c dst (drop src c) n (omega arith) f, v.front, slot-words, next-flat x q) (sym (words_append (flat k) x));
          rest = rw (g, drop_past c dst (drop src c) n (omega arith) (src + n) f (omega (arith, pack-behind))) next-rest;
          same = ap (between s at) e ∙ between_put w at pack-inside ys s ∙ v.same;
        }

    pub pack-turn : {d : List ℕ} {src' dst' : ℕ} → d ≡ stepped (keeps ps b) at b src dst (get_or w b 0 * 3) w → src' ≡ src + get_or w b 0 * 3 → dst' ≡ stepped_to (keeps ps b) dst (get_or w b 0 * 3)
        → Packing ps ss s at w₀ d (b + 1) src' dst'
    unfolding stepped stepped_to
    pack-turn {d} e p q = rw (p, q) (go (keeps ps b) (rw (zero-add b) at (keep-next ps 0 ss b bs)) e)
      where
        go : (t : Bool) → keep ps 0 (take (b + 1) ss) ≡ k ++ (only_if t (get_or ss b []) ∷ []) → d ≡ stepped t at b src dst n w → Packing ps ss s at w₀ d (b + 1) (src + n) (stepped_to t dst n)
        go true m e = pack-keep d e m
        go false m e = pack-drop d e m

  pub pack-zero : dst + (src - dst) ≤ length (lent at w)
  pack-zero = omega (arith, lent_length w at pack-inside, length-drop at w₀, pack-behind, v.src-is, use-take ss b, v.start.packed.fits, v.len)

  pub pack-done : {ys : List ℕ} → s ≤ b → ys ≡ paste (lent at w) dst (replicate (src - dst) 0) (src - dst) → Changed s at w₀ (returned at w ys) (keep ps 0 ss)
  pack-done {ys} h e =
      let c : List ℕ = drop at w in
      let lc : length c ≡ length (drop at w₀) = omega (arith, length-drop at w, length-drop at w₀, v.len) in
      let ls : length ss ≡ s = slots_length v.start in
      let all : take b ss ≡ ss = take_all b ss (omega arith) in
      let r : List (List Cell) = keep ps 0 ss in
      let end : dst + (src - dst) ≡ src = omega (arith, pack-behind) in
      let zeros : drop (dst + (src - dst)) c ≡ replicate (length c - (dst + (src - dst))) 0 =
      rw (end, v.rest, lc) (packed-rest v.start.packed src (rw all at v.src-is)) in
      let words : ys ≡ padded (cell_words (flat r)) (length c) =
      e ∙ rw (lent_is w at pack-inside) (zeroed c dst (src - dst) (omega (arith, pack-zero, ap length (lent_is w at pack-inside))) zeros ∙ ap (λ (l : List ℕ). padded l (length c)) (rw all at v.front)) in
      let lens : take s w ≡ map length r = rw (v.lens, all, drop_of_length-le ss {i = b} (omega arith), append-nil r) in
      let valid = valid-all (flat r) (λ d m. all_valid_lem (flat ss) v.start.packed.valid d (keep-from ps 0 ss d m)) in
      rw (returned-is w at pack-inside ys) (changed w v.start.order pack-inside v.same r lens (length c) (omega (arith, keep-less ps ss, v.start.packed.fits)) valid ys words)

pub same-both : {a b c : Slots} → Same a b → Same b c → Same a c
same-both v w = record { s = w.s ∙ v.s; at = w.at ∙ v.at; len = w.len ∙ v.len; name = w.name ∙ v.name }

pub ruleset packs = (step-none, step-keep, step-drop, step_room, step-source, to_none, to-keep, to_drop, pack-begin, pack-inside, pack-below, pack-behind, pack-room, pack-turn, pack-zero, pack-done)
