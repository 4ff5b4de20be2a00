-- Count steps keep a barrier fit, and the elder's counts at least the number of its cells that point into the nursery.
use mathlib.Core.Path.{◌≡◌, refl, sym, ap, ◌∙◌}
use mathlib.Core.Bool.{Bool, true, false, ◌&&◌, not, true≢false}
use mathlib.Core.List.{List, [], ◌∷◌, Memᴰ}
use Prim.Native.Nat.{ℕ, zero, suc, ◌+◌, ◌-◌, ◌%◌, ◌≤◌, ◌<◌, zero-le}
use native.Mathlib.Nat.{mod-lt}
use native.Mathlib.Omega.{arith}
use lib.Dec.{eqb, ltb, leb}
use lib.ListN.{length, get_or, set, length-set, replicate, length-replicate}
use lib.Seq.{get_or-set_same, get_or-set_other}
use Rattle.model.specs.Lists.{all_at_most}
use Rattle.model.specs.Res.{ok, each}
use Rattle.model.specs.Records.{Ptr, Cell, plain, ref}
use Rattle.model.specs.Barrier.{Barrier, absent, present, cache, most, counts, count, up, down, count_in, count_out}
use Rattle.theorems.specs.Holds.{Holds, such}
use Rattle.theorems.specs.Fit.{FitBarrier}
use borrow.Author.Tests.{eqb-true, ltb-true, le-leb, leb-true}
use Rattle.theorems.proofs.Lists.{and_left, and_right, eqb_same}
use Rattle.theorems.proofs.Res.{bind, asked, weaken}

abbrev pub bit : Bool → ℕ
bit true = 1
bit false = 0

-- an elder cell that is counted at k, and how many of a list are
unfoldable pub crosses : ℕ → Cell → Bool
crosses k (plain a v) = false
crosses k (ref p) = not (eqb p.heap 1) && eqb (p.base % 256) k

unfoldable pub tally : ℕ → List Cell → ℕ
tally k [] = 0
tally k (c ∷ cs) = bit (crosses k c) + tally k cs

-- a barrier keeps its 256 places, each within its bound

all_at_most-set : (m : ℕ) (xs : List ℕ) (i v : ℕ) → v ≤ m → all_at_most m xs ≡ true → all_at_most m (set xs i v) ≡ true
unfolding all_at_most
all_at_most-set m [] i v h e = refl
all_at_most-set m (x ∷ xs) zero v h e = rw (le-leb v m h) (and_right (leb x m) (all_at_most m xs) e)
all_at_most-set m (x ∷ xs) (suc i) v h e = rw (and_left (leb x m) (all_at_most m xs) e) (all_at_most-set m xs i v h (and_right (leb x m) (all_at_most m xs) e))

pub all_at_most-at : (m : ℕ) (xs : List ℕ) (i : ℕ) → all_at_most m xs ≡ true → get_or xs i 0 ≤ m
unfolding all_at_most
all_at_most-at m [] i e = zero-le
all_at_most-at m (x ∷ xs) zero e = leb-true x m (and_left (leb x m) (all_at_most m xs) e)
all_at_most-at m (x ∷ xs) (suc i) e = all_at_most-at m xs i (and_right (leb x m) (all_at_most m xs) e)

pub fit-set : (b : Barrier) (i v : ℕ) → v ≤ most → FitBarrier b → FitBarrier (present (set (counts b) i v))
unfolding counts
fit-set b i v h f = record { size = length-set (counts b) i v ∙ f.size; bounded = all_at_most-set most (counts b) i v h f.bounded }

pub zeros-bounded : (m n : ℕ) → all_at_most m (replicate n 0) ≡ true
unfolding all_at_most
zeros-bounded m zero = refl
zeros-bounded m (suc n) = rw (le-leb 0 m zero-le) (zeros-bounded m n)

pub absent-fit : FitBarrier absent
unfolding counts
absent-fit = record { size = length-replicate cache 0; bounded = zeros-bounded most cache }

up-fit : (j : ℕ) (b : Barrier) → FitBarrier b → Holds FitBarrier (up j b)
unfolding up
up-fit j b f = asked 11 (ltb (count b j) most) _ (λ e. such (fit-set b j (suc (count b j)) (ltb-true (count b j) most e) f))

down-fit : (j : ℕ) (b : Barrier) → FitBarrier b → Holds FitBarrier (down j b)
unfolding down counts
down-fit j absent f = such f
down-fit j (present cs) f = asked 10 (ltb 0 (get_or cs j 0)) _ (λ _. such (fit-set (present cs) j (get_or cs j 0 - 1) (omega (arith, all_at_most-at most cs j f.bounded)) f))

module _ (own : ℕ) where
  pub in-fit : (c : Cell) (b : Barrier) → FitBarrier b → Holds FitBarrier (count_in own c b)
  unfolding count_in
  in-fit (plain a v) b f = such f
  in-fit (ref p) b f = go (eqb p.heap own)
    where
      go : (t : Bool) → Holds FitBarrier (elim t [ true ↦ ok b | false ↦ up (p.base % 256) b ])
      go true = such f
      go false = up-fit (p.base % 256) b f

  pub out-fit : (c : Cell) (b : Barrier) → FitBarrier b → Holds FitBarrier (count_out own c b)
  unfolding count_out
  out-fit (plain a v) b f = such f
  out-fit (ref p) b f = go (eqb p.heap own)
    where
      go : (t : Bool) → Holds FitBarrier (elim t [ true ↦ ok b | false ↦ down (p.base % 256) b ])
      go true = such f
      go false = down-fit (p.base % 256) b f

-- the counts are at least f, if M: a barrier of any fit image may count too little, one of demand 3's lists does not
pub record Covers (M : Type 0) (f : ℕ → ℕ) (b : Barrier) : Type 0 where
  pub fit : FitBarrier b
  pub covers : M → (k : ℕ) → k < cache → f k ≤ count b k

module _ (cs : List ℕ) (j k v : ℕ) (size : length cs ≡ cache) (h : j < cache) where
  set_here : eqb j k ≡ true → get_or (set cs j v) k 0 ≡ v
  set_here e = rw (← eqb-true j k e) (get_or-set_same cs j v 0 (rw size h))

  set_there : eqb j k ≡ false → get_or (set cs j v) k 0 ≡ get_or cs k 0
  set_there e = get_or-set_other cs j k v 0 (λ p. true≢false (sym (eqb_same j) ∙ ap (eqb j) (sym p) ∙ e))

pub low_byte : (b : ℕ) → b % 256 < cache
unfolding cache
low_byte b = mod-lt b (omega arith)

module _ {M : Type 0} where
  pub less : {f g : ℕ → ℕ} {b : Barrier} → ((k : ℕ) → g k ≤ f k) → Covers M f b → Covers M g b
  less h c = record { fit = c.fit; covers = λ m k l. omega (arith, h k, c.covers m k l) }

  up-covers : (f : ℕ → ℕ) (j : ℕ) (b : Barrier) → j < cache → Covers M f b → Holds (Covers M (λ k. bit (eqb j k) + f k)) (up j b)
  unfolding up counts count
  up-covers f j b h c = asked 11 (ltb (count b j) most) _ (λ q. such (record { fit = fit-set b j (suc (count b j)) (ltb-true (count b j) most q) c.fit; covers = λ m k l. go m k l (eqb j k) refl }))
    where
      go : M → (k : ℕ) → k < cache → (t : Bool) → eqb j k ≡ t → bit t + f k ≤ get_or (set (counts b) j (suc (count b j))) k 0
      go m k l true e = rw (set_here (counts b) j k (suc (count b j)) c.fit.size h e, eqb-true j k e) (omega (arith, c.covers m k l))
      go m k l false e = rw (set_there (counts b) j k (suc (count b j)) c.fit.size h e) (omega (arith, c.covers m k l))

  down-covers : (f : ℕ → ℕ) (j : ℕ) (b : Barrier) → j < cache → Covers M (λ k. bit (eqb j k) + f k) b → Holds (Covers M f) (down j b)
  unfolding down counts count
  down-covers f j absent h c = such (less (λ k. omega arith) c)
  down-covers f j (present cs) h c = asked 10 (ltb 0 (get_or cs j 0)) _ (λ _. such (record { fit = fit-set (present cs) j (get_or cs j 0 - 1) (omega (arith, all_at_most-at most cs j c.fit.bounded)) c.fit; covers = λ m k l. go k l (eqb j k) refl (c.covers m k l) }))
    where
      go : (k : ℕ) → k < cache → (t : Bool) → eqb j k ≡ t → bit t + f k ≤ get_or cs k 0 → f k ≤ get_or (set cs j (get_or cs j 0 - 1)) k 0
      go k l true e d = rw (set_here cs j k (get_or cs j 0 - 1) c.fit.size h e, eqb-true j k e) (omega arith)
      go k l false e d = rw (set_there cs j k (get_or cs j 0 - 1) c.fit.size h e) (omega arith)

  pub in-covers : (f : ℕ → ℕ) (c : Cell) (b : Barrier) → Covers M f b → Holds (Covers M (λ k. bit (crosses k c) + f k)) (count_in 1 c b)
  unfolding count_in crosses
  in-covers f (plain a v) b h = such (less (λ k. omega arith) h)
  in-covers f (ref p) b h = go (eqb p.heap 1)
    where
      go : (t : Bool) → Holds (Covers M (λ k. bit (not t && eqb (p.base % 256) k) + f k)) (elim t [ true ↦ ok b | false ↦ up (p.base % 256) b ])
      go true = such (less (λ k. omega arith) h)
      go false = up-covers f (p.base % 256) b (low_byte p.base) h

  pub out-covers : (f : ℕ → ℕ) (c : Cell) (b : Barrier) → Covers M (λ k. bit (crosses k c) + f k) b → Holds (Covers M f) (count_out 1 c b)
  unfolding count_out crosses
  out-covers f (plain a v) b h = such (less (λ k. omega arith) h)
  out-covers f (ref p) b h = go (eqb p.heap 1) h
    where
      go : (t : Bool) → Covers M (λ k. bit (not t && eqb (p.base % 256) k) + f k) b → Holds (Covers M f) (elim t [ true ↦ ok b | false ↦ down (p.base % 256) b ])
      go true d = such (less (λ k. omega arith) d)
      go false d = down-covers f (p.base % 256) b (low_byte p.base) d

  -- many cells

  pub ins-cover : (cs : List Cell) (f : ℕ → ℕ) (b : Barrier) → Covers M f b → Holds (Covers M (λ k. tally k cs + f k)) (each (count_in 1) cs b)
  unfolding tally
  ins-cover [] f b h = such (less (λ k. omega arith) h)
  ins-cover (c ∷ cs) f b h = bind _ (in-covers f c b h) (λ w d. weaken (ins-cover cs (λ k. bit (crosses k c) + f k) w d) (λ v e. less (λ k. omega arith) e))

  pub outs-cover : (cs : List Cell) (f : ℕ → ℕ) (b : Barrier) → Covers M (λ k. tally k cs + f k) b → Holds (Covers M f) (each (count_out 1) cs b)
  unfolding tally
  outs-cover [] f b h = such (less (λ k. omega arith) h)
  outs-cover (c ∷ cs) f b h = bind _ (out-covers (λ k. tally k cs + f k) c b (less (λ k. omega arith) h)) (λ w d. outs-cover cs f w d)

-- a cell that points into the nursery is counted
pub tally-pos : (p : Ptr) → p.heap ≡ 0 → {l : List Cell} → Memᴰ (ref p) l → 0 < tally (p.base % 256) l
unfolding tally crosses
tally-pos p z (Memᴰ.head e) = rw (← e, z, eqb_same (p.base % 256)) (omega arith)
tally-pos p z (Memᴰ.tail m) = omega (arith, tally-pos p z m)
