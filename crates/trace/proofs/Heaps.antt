-- The walk over the words makes the model's members, in the nursery and in the elder generation.
use mathlib.Core.Path.{◌≡◌, refl, sym, ap, ◌∙◌}
use mathlib.Core.List.{List, [], ◌∷◌, ◌++◌, map}
use Prim.Native.Nat.{ℕ, zero, suc, ◌+◌, ◌*◌, ◌-◌, ◌/◌, ◌≤◌, ◌<◌}
use native.Mathlib.Omega.{arith}
use lib.ListN.{length, get_or, take, drop, length-map}
use lib.Seq.{drop-drop}
use Rattle.model.specs.Lists.{sum, places}
use Rattle.model.specs.Reach.{enter, walk, closure}
use Rattle.model.specs.Records.{Ptr, cells_of, same_ptr, pointers, pointers_to}
use Rattle.model.specs.Barrier.{absent}
use Rattle.model.specs.Heap.{Nursery, Elder, part, in_use}
use Rattle.model.specs.Image.{cut}
use Rattle.model.specs.Nursery.{matched, young_start, young_step, young_members}
use Rattle.model.specs.Elder.{old_start, old_step, old_members}
use Rattle.model.specs.Calls.{cells_in}
use Rattle.theorems.proofs.Regions.{lengths-sum, slots-lengths}
use Rattle.theorems.proofs.Members.{young-few, old-few}
use Rattle.trace.specs.Words.{members}
use Rattle.trace.specs.Leads.{begins_at, leads_to, Inside}
use Rattle.trace.specs.Traces.{Within, most_members, Traced}
use Rattle.trace.proofs.Closure.{walk_more}
use Rattle.trace.proofs.Places.{in-length}
use Rattle.words.proofs.Sums.{sum-within}

-- n cells from the s-th, of m

cells-front : (m n : ℕ) (w : List ℕ) → n ≤ m → take n (cells_of m w) ≡ cells_of n w
unfolding cells_of
cells-front m zero w h = refl
cells-front zero (suc n) w h = absurd (omega arith)
cells-front (suc m) (suc n) w h = rw (cells-front m n (drop 3 w) (omega arith))

cells-part : (m n s : ℕ) (w : List ℕ) → s + n ≤ m → take n (drop s (cells_of m w)) ≡ cells_of n (drop (3 * s) w)
unfolding cells_of
cells-part m n zero w h = cells-front m n w (omega arith)
cells-part zero n (suc s) w h = absurd (omega arith)
cells-part (suc m) n (suc s) w h =
    let e : 3 * suc s ≡ 3 + 3 * s = omega arith in
    rw (e, ← drop-drop (3 * s) 3 w) (cells-part m n s (drop 3 w) (omega arith))

-- an allocation of the elder

slot_at : {A : Type 0} (ls : List ℕ) (xs : List A) (b : ℕ) → get_or (cut ls xs) b [] ≡ take (get_or ls b 0) (drop (sum (take b ls)) xs)
unfolding cut sum
slot_at [] xs b = refl
slot_at (n ∷ ls) xs zero = refl
slot_at (n ∷ ls) xs (suc b) = slot_at ls (drop n xs) b ∙ rw (drop-drop (sum (take b ls)) n xs)

-- what a member leads to, as a part of the heap's m cells
leads-part : (own : ℕ) (ls cells : List ℕ) (m : ℕ) (p : Ptr) → (0 < get_or ls p.base 0 → begins_at own ls p.base + get_or ls p.base 0 ≤ m)
    → pointers_to own (take (get_or ls p.base 0) (drop (begins_at own ls p.base) (cells_of m cells))) ≡ leads_to own ls cells p
unfolding leads_to cells_of
leads-part own ls cells m p h = ap (pointers_to own) (go (get_or ls p.base 0) h)
  where
    s : ℕ
    s = begins_at own ls p.base

    go : (n : ℕ) → (0 < n → s + n ≤ m) → take n (drop s (cells_of m cells)) ≡ cells_of n (drop (3 * s) cells)
    go zero h = refl
    go (suc n) h = cells-part m (suc n) s cells (h (omega arith))

-- with fuel for every pointer that comes up, and with the same steps, the walk is the closure
closure-walked : (step step' : Ptr → List Ptr) (start : List Ptr) (k l : ℕ) → ((p : Ptr) → step p ≡ step' p) → length (closure same_ptr step k start) ≤ k → k ≤ l
    → walk same_ptr step' l 0 (enter same_ptr [] start) ≡ closure same_ptr step k start
unfolding closure
closure-walked step step' start k l same few h =
    let e : l ≡ k + (l - k) = omega arith in
    ap (λ (f : Ptr → List Ptr). walk same_ptr f l 0 (enter same_ptr [] start)) (λ i p. sym (same p) i)
    ∙ (rw e (walk_more same_ptr step k (l - k) 0 (enter same_ptr [] start) (omega arith)))

-- the nursery

module _ (roots lens cells ms v w : List ℕ) (n : ℕ)
    (long : length cells ≡ 3 * length lens)
    (inside : (b : ℕ) → 0 < get_or lens b 0 → b + get_or lens b 0 ≤ length lens)
    (begun : members n w ≡ enter same_ptr [] (pointers (cells_in roots) ++ matched 0 ms (places 0 lens)))
    (room : 3 * (length roots / 3 + 2 * length lens) ≤ length v)
    (kept : length w ≡ length v) where
  module _ (y : Nursery) (same : y.lens ≡ lens) (is : y.cells ≡ cells_in cells) where
    young-leads : (p : Ptr) → young_step y p ≡ leads_to 0 lens cells p
    unfolding young_step part begins_at cells_in
    young-leads p = rw (same, is) (leads-part 0 lens cells (length cells / 3) p (λ h. omega (arith, inside p.base h)))

    young-start : young_start y (cells_in roots) ms ≡ pointers (cells_in roots) ++ matched 0 ms (places 0 lens)
    unfolding young_start
    young-start = rw same

    cells-long : length y.cells ≡ length lens
    cells-long = omega (arith, ap length is, in-length cells)

    small : length (young_members y (cells_in roots) ms) ≤ length (cells_in roots) + 2 * length y.cells
    small = young-few y (cells_in roots) ms (ap length same ∙ sym cells-long)

    young-walked : walk same_ptr (leads_to 0 lens cells) (length w) 0 (members n w) ≡ young_members y (cells_in roots) ms
    unfolding young_members
    young-walked =
        rw (begun, ← young-start)
        (closure-walked (young_step y) (leads_to 0 lens cells) (young_start y (cells_in roots) ms) (length (cells_in roots) + 2 * length y.cells) (length w) young-leads small (omega (arith, in-length roots, cells-long)))

  pub young-room : 3 * length (walk same_ptr (leads_to 0 lens cells) (length w) 0 (members n w)) ≤ length w
  young-room =
      let y : Nursery = record { cursor = 0; colls = 0; proms = 0; bar = absent; lens = lens; cells = cells_in cells } in
      omega (arith, small y refl refl, ap length (young-walked y refl refl), in-length roots, in-length cells)

  pub young-done : {m : List Ptr} → m ≡ walk same_ptr (leads_to 0 lens cells) (length w) 0 (members n w) → (y : Nursery) → y.lens ≡ lens → y.cells ≡ cells_in cells → m ≡ young_members y (cells_in roots) ms
  young-done e y same is = e ∙ young-walked y same is

pub young-inside : (lens cells : List ℕ) → length cells ≡ 3 * length lens → ((b : ℕ) → 0 < get_or lens b 0 → b + get_or lens b 0 ≤ length lens) → Inside 0 lens cells
unfolding begins_at
young-inside lens cells long inside = record { fits = λ b h. omega (arith, inside b h) }

-- the elder generation

pub old-inside : (lens cells : List ℕ) → sum lens * 3 ≤ length cells → Inside 1 lens cells
unfolding begins_at
old-inside lens cells fits = record { fits = λ b h. omega (arith, sum-within lens b) }

module _ (roots lens cells ms v w : List ℕ) (n : ℕ)
    (begun : members n w ≡ enter same_ptr [] (pointers (cells_in roots) ++ matched 1 ms (places 0 lens)))
    (room : 3 * (length roots / 3 + length lens + sum lens) ≤ length v)
    (kept : length w ≡ length v) where
  module _ (e : Elder) (is : e.slots ≡ cut lens (cells_of (sum lens) cells)) where
    old-leads : (p : Ptr) → old_step e p ≡ leads_to 1 lens cells p
    unfolding old_step begins_at
    old-leads p = rw (is, slot_at lens (cells_of (sum lens) cells) p.base) (leads-part 1 lens cells (sum lens) p (λ h. sum-within lens p.base))

    old-lengths : map length e.slots ≡ lens
    old-lengths = rw is (slots-lengths lens cells)

    old-start : old_start e (cells_in roots) ms ≡ pointers (cells_in roots) ++ matched 1 ms (places 0 lens)
    unfolding old_start
    old-start = rw old-lengths

    old-small : length (cells_in roots) + length e.slots + in_use e.slots ≤ length roots / 3 + length lens + sum lens
    unfolding in_use
    old-small = omega (arith, in-length roots, ap length old-lengths, length-map e.slots length, lengths-sum e.slots, ap sum old-lengths)

    old-walked : walk same_ptr (leads_to 1 lens cells) (length w) 0 (members n w) ≡ old_members e (cells_in roots) ms
    unfolding old_members
    old-walked =
        rw (begun, ← old-start)
        (closure-walked (old_step e) (leads_to 1 lens cells) (old_start e (cells_in roots) ms) (length (cells_in roots) + length e.slots + in_use e.slots) (length w) old-leads (old-few e (cells_in roots) ms) (omega (arith, old-small)))

  pub old-room : 3 * length (walk same_ptr (leads_to 1 lens cells) (length w) 0 (members n w)) ≤ length w
  old-room =
      let e : Elder = record { colls = 0; bar = absent; slots = cut lens (cells_of (sum lens) cells) } in
      omega (arith, old-few e (cells_in roots) ms, old-small e refl, ap length (old-walked e refl))

  pub old-done : {m : List Ptr} → m ≡ walk same_ptr (leads_to 1 lens cells) (length w) 0 (members n w) → (e : Elder) → e.slots ≡ cut lens (cells_of (sum lens) cells) → m ≡ old_members e (cells_in roots) ms
  old-done q e is = q ∙ old-walked e is

-- either heap

pub own-inside : (own : ℕ) (lens cells : List ℕ) → own < 2 → Within own lens cells → Inside own lens cells
own-inside zero lens cells s f = young-inside lens cells f.0 f.1
own-inside (suc zero) lens cells s f = old-inside lens cells f
own-inside (suc (suc k)) lens cells s f = absurd (omega arith)

pub own-room : (own : ℕ) (roots lens cells ms v w : List ℕ) (n : ℕ) → own < 2 → Within own lens cells
    → members n w ≡ enter same_ptr [] (pointers (cells_in roots) ++ matched own ms (places 0 lens)) → 3 * (length roots / 3 + most_members own lens) ≤ length v → length w ≡ length v
    → 3 * length (walk same_ptr (leads_to own lens cells) (length w) 0 (members n w)) ≤ length w
own-room zero roots lens cells ms v w n s f b r k = young-room roots lens cells ms v w n f.0 f.1 b r k
own-room (suc zero) roots lens cells ms v w n s f b r k = old-room roots lens cells ms v w n b r' k
  where
    r' : 3 * (length roots / 3 + length lens + sum lens) ≤ length v
    r' = omega arith
own-room (suc (suc j)) roots lens cells ms v w n s f b r k = absurd (omega arith)

pub own-done : (own : ℕ) (roots lens cells ms v w : List ℕ) (n : ℕ) {m : List Ptr} → own < 2 → Within own lens cells
    → members n w ≡ enter same_ptr [] (pointers (cells_in roots) ++ matched own ms (places 0 lens)) → 3 * (length roots / 3 + most_members own lens) ≤ length v → length w ≡ length v
    → m ≡ walk same_ptr (leads_to own lens cells) (length w) 0 (members n w) → Traced own lens cells (cells_in roots) ms m
own-done zero roots lens cells ms v w n s f b r k e = young-done roots lens cells ms v w n f.0 f.1 b r k e
own-done (suc zero) roots lens cells ms v w n s f b r k e = old-done roots lens cells ms v w n b r' k e
  where
    r' : 3 * (length roots / 3 + length lens + sum lens) ≤ length v
    r' = omega arith
own-done (suc (suc j)) roots lens cells ms v w n s f b r k e = absurd (omega arith)
