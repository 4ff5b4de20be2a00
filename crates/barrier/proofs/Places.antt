-- The masks found one by one.
use mathlib.Core.Path.{◌≡◌, refl, sym, ◌∙◌}
use mathlib.Core.List.{List, [], ◌∷◌, ◌++◌, append-nil}
use Prim.Native.Nat.{ℕ, suc, ◌+◌, ◌≤◌, ◌<◌}
use native.Mathlib.Omega.{arith}
use native.Mathlib.Numerals.{add-one}
use lib.ListN.{length, get_or, take, drop, set, length-set, drop_of_length-le}
use lib.Seq.{drop-cons, append_snoc, take-suc-set}
use borrow.Author.Tests.{lt-ltb, le-ltb}
use Rattle.model.specs.Lists.{places}

-- the first n of ps are the places below i, and those from i on are left
pub record Found (cs : List ℕ) (i n : ℕ) (ps : List ℕ) : Type 0 where
  pub within : i ≤ 256
  pub few : n ≤ i
  pub room : length ps ≡ 256
  pub rest : take n ps ++ places i (drop i cs) ≡ places 0 cs

pub found_none : (cs ps : List ℕ) → length ps ≡ 256 → Found cs 0 0 ps
found_none cs ps h = record { within = omega arith; few = omega arith; room = h; rest = refl }

module _ {cs ps : List ℕ} {i n : ℕ} (f : Found cs i n ps) (l : length cs ≡ 256) where
  module _ (h : i < 256) where
    parted : drop i cs ≡ get_or cs i 0 ∷ drop (suc i) cs
    parted = drop-cons cs i 0 (omega arith)

    pub found-more : 0 < get_or cs i 0 → Found cs (i + 1) (n + 1) (set ps n i)
    unfolding places
    found-more p =
        let some : take n ps ++ i ∷ places (suc i) (drop (suc i) cs) ≡ places 0 cs = rw (parted, lt-ltb _ _ p) at f.rest in
        record {
          within = omega arith;
          few = omega (arith, f.few);
          room = length-set ps n i ∙ f.room;
          rest = rw (add-one n, add-one i, take-suc-set ps n i (omega (arith, f.few, f.room))) (append_snoc (take n ps) i _ ∙ some);
        }

    pub found-same : get_or cs i 0 ≤ 0 → Found cs (i + 1) n ps
    unfolding places
    found-same p =
        let none : take n ps ++ places (suc i) (drop (suc i) cs) ≡ places 0 cs = rw (parted, le-ltb _ _ p) at f.rest in
        record { within = omega arith; few = omega (arith, f.few); room = f.room; rest = rw add-one none }

  pub found_all : 256 ≤ i → take n ps ≡ places 0 cs
  unfolding places
  found_all h =
      let none : drop i cs ≡ [] = drop_of_length-le cs {i = i} (omega arith) in
      sym (append-nil (take n ps)) ∙ (rw none at f.rest)
