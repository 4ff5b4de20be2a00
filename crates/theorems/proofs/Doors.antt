-- On a formed image the doors are the calls, so demand 3 holds of every list of them from a fresh heap.
use mathlib.Core.Path.{◌≡◌, refl, sym, subst, ◌∙◌}
use mathlib.Core.Bool.{true}
use mathlib.Core.Logic.{◌↔◌}
use mathlib.Core.List.{List}
use Prim.Native.Nat.{ℕ}
use Rattle.model.specs.Res.{Res, ok, refuse}
use Rattle.model.specs.Heap.{Sizes, in_bounds, fresh}
use Rattle.model.specs.Image.{encode, decode, sized, formed}
use Rattle.model.specs.Collector.{report}
use Rattle.model.specs.Calls.{opened, Outcome, reported, Call, allocs, reads, writes, call, report_call}
use Rattle.model.specs.Demand.{History, nothing, next}
use Rattle.theorems.specs.Fit.{Image}
use Rattle.theorems.specs.Doors.{on_formed, DoorHistory, AllFormed, DoorDemand}
use Rattle.theorems.proofs.Image.{image-of, image-sized}
use Rattle.theorems.proofs.Kept.{calls-kept, new-image}
use Rattle.theorems.proofs.Demand.{demand-3}

-- what the doors require is what 1 and 2 ask
pub required-exactly : (w : List ℕ) → Image w (decode w) ↔ ((sized w ≡ true) × (formed w ≡ true))
required-exactly w = (image-sized, λ (s, f). image-of w s f)

pub on-formed : (w : List ℕ) → sized w ≡ true → formed w ≡ true → (c : Call) → on_formed c w ≡ call c w
unfolding call opened
on-formed w s f (allocs roots scratch a) = rw (s, f)
on-formed w s f (reads p) = rw (s, f)
on-formed w s f (writes p v) = rw (s, f)

pub on-image : {w : List ℕ} → Image w (decode w) → (c : Call) → on_formed c w ≡ call c w
on-image {w} i c = let (s, f) = image-sized i in on-formed w s f c

pub report-on-image : {w : List ℕ} → Image w (decode w) → reported w (report (decode w)) ≡ report_call w
unfolding report_call opened
report-on-image i = rw ((image-sized i).0, (image-sized i).1)

-- a call leaves a formed image, refused or answered
pub still-image : {w : List ℕ} → Image w (decode w) → (c : Call) → Image (call c w).image (decode (call c w).image)
still-image {w} i c = go (call c w).answer refl
  where
    go : (a : Res (List ℕ)) → (call c w).answer ≡ a → Image (call c w).image (decode (call c w).image)
    go (ok l) e = let k = (calls-kept c w).answered l e in image-of (call c w).image k.0 k.1
    go (refuse q) e = rw ((calls-kept c w).refused q e).0 i

-- the doors' lists are histories, and histories give each door what it requires

image-after : {w : List ℕ} {o : Outcome} (c : Call) → Image w (decode w) → o ≡ call c w → Image o.image (decode o.image)
image-after c i e = subst (λ (x : Outcome). Image x.image (decode x.image)) (sym e) (still-image i c)

pub doors-history : {w v : List ℕ} {l : List (Call × Outcome)} → Image w (decode w) → DoorHistory w l v → History w l v
doors-history i DoorHistory.nothing = nothing
doors-history i (DoorHistory.next c o e h) = let is = e ∙ on-image i c in next c o is (doors-history (image-after c i is) h)

pub history-met : {w v : List ℕ} {l : List (Call × Outcome)} → Image w (decode w) → History w l v → AllFormed w l
history-met i nothing = tt
history-met i (next c o e h) = (i, history-met (image-after c i e) h)

pub fresh-image : (z : Sizes) → in_bounds z ≡ true → Image (encode (fresh z)) (decode (encode (fresh z)))
fresh-image z b = let n = new-image z b in image-of (encode (fresh z)) n.is-sized n.is-formed

pub demand-3-doors : (z : Sizes) → in_bounds z ≡ true → (l : List (Call × Outcome)) (v : List ℕ) → DoorHistory (encode (fresh z)) l v → DoorDemand z l v
demand-3-doors z b l v h =
    let history = doors-history (fresh-image z b) h in
    record { met = history-met (fresh-image z b) history; history = history; demand = demand-3 z b l v history }
