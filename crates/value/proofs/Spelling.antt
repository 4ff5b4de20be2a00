-- Three words against the model: question 3, and the value of each kind.
use mathlib.Core.Path.{◌≡◌, refl, ap, ◌∙◌}
use mathlib.Core.Bool.{Bool, true, false, ◌&&◌, ◌||◌}
use Prim.Native.Nat.{ℕ, zero, suc, ◌%◌, ◌/◌, ◌≤◌, ◌<◌}
use native.Mathlib.Omega.{arith}
use lib.Dec.{eqb, ltb, leb}
use lib.IntN.{ℤ}
use lib.Ieee.{Float, binary64, of_bits}
use mir.Syntax.{w64}
use mir.Val.{Fits, to_z, of_z}
use mir.ValLaws.{to_z-Fits, of_z-to_z}
use borrow.Author.Tests.{eqb-true, eqb-false, ltb-true, le-ltb}
use Rattle.model.specs.Records.{plain, ref, blank, cell_if, cell_of, scalar, valid_plain, valid, spare_zero, valid_words}
use Rattle.theorems.proofs.Lists.{and_left, and_right}
use Rattle.theorems.proofs.Cells.{plain-kind}
use Rattle.value.specs.declared.Value.TheVariants.{Uninitialized, Int, Bool as BoolV, Float as FloatV, Char, Pointer as PointerV}
use Rattle.value.specs.Value.{value_cell, bool_word, Spelled}

-- question 3

-- a kind from 5 on is no plain value's
pub no_kind : (k v : ℕ) → 5 ≤ k → valid_plain k v ≡ false
no_kind k v h = go (valid_plain k v) refl
  where
    go : (t : Bool) → valid_plain k v ≡ t → t ≡ false
    go true e = absurd (omega (arith, plain-kind k v e))
    go false e = refl

-- words whose first is no pointer's of heap 0 or 1
plain-asked : (a b o : ℕ) → (a ≡ 5 → ⊥) → (a ≡ 261 → ⊥) → valid_words a b o ≡ (valid_plain a b && eqb o 0)
unfolding valid_words cell_of valid
plain-asked a b o y e = go (eqb (a % 256) 5) refl
  where
    go : (t : Bool) → eqb (a % 256) 5 ≡ t → (valid (cell_if t a b o) && spare_zero (cell_if t a b o) o) ≡ (valid_plain a b && eqb o 0)
    go true q =
        let five = eqb-true (a % 256) 5 q in
        let heap : 2 ≤ a / 256 = omega arith in
        rw (le-ltb (a / 256) 2 heap, no_kind a b (omega arith))
    go false q = refl

-- question 3 as the code asks it
pub asked : (a b o : ℕ) → valid_words a b o ≡ (eqb a 5 || (eqb a 261 || (eqb o 0 && valid_plain a b)))
unfolding valid_words cell_of valid
asked a b o = go (eqb a 5) (eqb a 261) refl refl
  where
    turned : (s t : Bool) → (s && t) ≡ (t && s)
    turned true true = refl
    turned true false = refl
    turned false true = refl
    turned false false = refl

    go : (s t : Bool) → eqb a 5 ≡ s → eqb a 261 ≡ t → valid_words a b o ≡ (s || (t || (eqb o 0 && valid_plain a b)))
    go true t p q = rw (eqb-true a 5 p)
    go false true p q = rw (eqb-true a 261 q)
    go false false p q = plain-asked a b o (eqb-false a 5 p) (eqb-false a 261 q) ∙ turned (valid_plain a b) (eqb o 0)

-- what the machine reads back of a word's signed reading
pub read_back : (w : ℕ) (x : ℤ) → Fits w64 w → x ≡ to_z w64 w → to_z w64 (of_z w64 x) ≡ to_z w64 w
read_back w x f e = ap (to_z w64) (ap (of_z w64) e ∙ of_z-to_z w64 w f)

-- the value of a valid cell's words, by its kind
module _ (a b o : ℕ) (v : valid_words a b o ≡ true) where
  pub spelled-blank : a ≡ 0 → Spelled a b o Uninitialized
  unfolding valid_words cell_of valid valid_plain value_cell blank
  spelled-blank e = let z : eqb b 0 ≡ true = and_left (eqb b 0) (eqb o 0) (rw e at v) in rw (e, eqb-true b 0 z) (record { cell = refl; whole = tt; ranged = tt })

  pub spelled-int : (x : ℤ) → a ≡ 1 → Fits w64 b → x ≡ to_z w64 b → Spelled a b o (Int x)
  unfolding cell_of value_cell
  spelled-int x e f is = rw (e, is) (record { cell = ap (plain 1) (of_z-to_z w64 b f); whole = tt; ranged = to_z-Fits w64 b f })

  pub spelled-bool : a ≡ 2 → Spelled a b o (BoolV (eqb b 1))
  unfolding valid_words cell_of valid valid_plain value_cell
  spelled-bool e = rw e (record { cell = ap (plain 2) (bit b (ltb-true b 2 (and_left (ltb b 2) (eqb o 0) (rw e at v)))); whole = tt; ranged = tt })
    where
      bit : (n : ℕ) → n < 2 → bool_word (eqb n 1) ≡ n
      bit zero h = refl
      bit (suc zero) h = refl
      bit (suc (suc n)) h = absurd (omega arith)

  pub spelled-float : (n : Float) → a ≡ 3 → n ≡ of_bits binary64 b → Spelled a b o (FloatV n b)
  unfolding cell_of value_cell
  spelled-float n e is = rw e (record { cell = refl; whole = is; ranged = tt })

  pub spelled-char : a ≡ 4 → Spelled a b o (Char b)
  unfolding cell_of value_cell
  spelled-char e = rw e (record { cell = refl; whole = tt; ranged = tt })

  pub char-small : a ≡ 4 → b < 0x110000
  unfolding valid_words cell_of valid valid_plain scalar
  char-small e = go (ltb b 0xD800) refl (and_left (scalar b) (eqb o 0) (rw e at v))
    where
      go : (t : Bool) → ltb b 0xD800 ≡ t → (t || (leb 0xE000 b && ltb b 0x110000)) ≡ true → b < 0x110000
      go true q h = omega (arith, ltb-true b 0xD800 q)
      go false q h = ltb-true b 0x110000 (and_right (leb 0xE000 b) (ltb b 0x110000) h)

  -- any other kind is a pointer's
  module _ (k : 5 ≤ a) where
    is_pointer : eqb (a % 256) 5 ≡ true
    unfolding valid_words cell_of valid
    is_pointer = go (eqb (a % 256) 5) refl v
      where
        go : (t : Bool) → eqb (a % 256) 5 ≡ t → (valid (cell_if t a b o) && spare_zero (cell_if t a b o) o) ≡ true → t ≡ true
        go true q h = refl
        go false q h = absurd (omega (arith, plain-kind a b (and_left (valid_plain a b) (eqb o 0) h)))

    pub heap-small : a / 256 < 2
    unfolding valid_words cell_of valid
    heap-small = ltb-true (a / 256) 2 (and_left (ltb (a / 256) 2) true (rw is_pointer at v))

    pub spelled-pointer : (x : ℤ) → Fits w64 o → x ≡ to_z w64 o → Spelled a b o (PointerV (record { heap = a / 256; base = b; offset = x }))
    unfolding cell_of value_cell
    spelled-pointer x f is = rw is (record { cell = rw is_pointer (λ i. ref (record { heap = a / 256; base = b; off = of_z-to_z w64 o f i })); whole = tt; ranged = to_z-Fits w64 o f })

pub ruleset spells = (spelled-blank, spelled-int, spelled-bool, spelled-float, spelled-char, char-small, heap-small, spelled-pointer)
