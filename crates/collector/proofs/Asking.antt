-- What alloc asks, in order: 1 and 2 of the image, 3 of the roots, 4 of scratch, 5 of the amount; then whether the amount stays young.
use mathlib.Core.Path.{◌≡◌, refl, sym, ap, ◌∙◌}
use mathlib.Core.Bool.{true, false, ◌&&◌}
use mathlib.Core.List.{List, [], ◌∷◌}
use Rattle.std.specs.Prelude.{Result, Ok, Err}
use Prim.Native.Nat.{ℕ, ◌-◌, ◌*◌, ◌/◌, ◌^◌, ◌≤◌, ◌<◌}
use native.Mathlib.Omega.{arith}
use lib.Dec.{T, ltb}
use lib.IntN.{ℤ, pos, negsuc, nat_abs}
use lib.ListN.{length}
use lib.Signed.{le_z, non_neg}
use mir.Syntax.{w64}
use mir.Val.{SFits, to_z, of_z}
use mir.ValLaws.{to_z-of_z}
use borrow.Author.Tests.{leb-true, leb-false, lt-ltb, le-ltb, le-leb, lt-leb}
use Rattle.model.specs.Lists.{sum}
use Rattle.model.specs.Res.{ok}
use Rattle.model.specs.Records.{whole_cells, whole}
use Rattle.model.specs.Image.{decode}
use Rattle.model.specs.Nursery.{bump}
use Rattle.model.specs.Elder.{sweeps_of}
use Rattle.model.specs.Collector.{alloc, collect_and_alloc, four_counts}
use Rattle.model.specs.Calls.{Outcome, cells_in, roots_good, scratch_length, alloc_on, allocated, allocs, call}
use Rattle.theorems.specs.Fit.{Image}
use Rattle.theorems.specs.Does.{with_young}
use Rattle.theorems.proofs.Cells.{whole_back}
use Rattle.theorems.proofs.Lists.{and_parts}
use Rattle.question.specs.Question.{done_answer}
use Rattle.question.specs.declared.Question.{Question}
use Rattle.question.specs.declared.Question.TheVariants as question
use Rattle.image.specs.Answers.{image_asked}
use Rattle.model.specs.Heap.{Sizes}
use Rattle.image.specs.Places.{Bounded}
use Rattle.image.proofs.Bounds.{bounded}
use Rattle.image.proofs.Opened.{opened-by}
use Rattle.fields.specs.Fields.{Reads, Turns, on_young}
use Rattle.collector.specs.Alloc.{alloc_outcome}

-- 1 and 2

module _ (w : List ℕ) {r : Result (Unit {0}) Question} (e : done_answer r ≡ image_asked w) where
  module _ (roots : List ℕ) (scratch a : ℕ) where
    pub formed-call : {b : ℕ} → b ≡ a → r ≡ Ok tt → call (allocs roots scratch a) w ≡ allocated w roots (alloc_on (decode w) roots scratch b)
    unfolding call
    formed-call d f = rw (opened-by r w e, f, d)

    pub refused-call : (q : Question) → r ≡ Err q → call (allocs roots scratch a) w ≡ alloc_outcome (Err q) w roots
    unfolding call allocated alloc_outcome
    refused-call q f = rw (opened-by r w e, f)

-- 3

root-cells : (roots : List ℕ) → roots_good roots ≡ true → (whole_cells roots ≡ true) × (length roots / 3 ≤ 4096)
unfolding roots_good
root-cells roots e =
    let (cells, few) = and_parts _ _ e in
    (cells, omega (arith, leb-true (length roots) (3 * 4096) few))

pub few-roots : (roots : List ℕ) → roots_good roots ≡ true → length roots / 3 ≤ 4096
few-roots roots e = (root-cells roots e).1

-- 4: the words of scratch

pub scratch-bounds : {w : List ℕ} {z : Sizes} → Image w (decode w) → Reads (λ h. h.size) w z → Bounded z
scratch-bounds i r = rw (← r.reads _ i) (bounded _ i.fit.sizes)

-- 5: the word of an amount

high : (a : ℕ) → 2 ^ 63 ≤ a → (ltb 0 a && ltb a 0x8000_0000_0000_0000) ≡ false
high a h = rw (lt-ltb 0 a (omega arith), le-ltb a 0x8000_0000_0000_0000 (omega arith))

not-above-zero : (x : ℤ) → le_z x (pos 0) ≡ true → SFits w64 x → (ltb 0 (of_z w64 x) && ltb (of_z w64 x) 0x8000_0000_0000_0000) ≡ false
not-above-zero (pos n) h f = rw (le-ltb 0 n (leb-true n 0 h))
not-above-zero (negsuc n) h f = let l : n < 2 ^ 63 = f.sfits in high (of_z w64 (negsuc n)) (omega arith)

-- one above 0 is its own word
pub record Amount (x : ℤ) (a : ℕ) : Type 0 where
  pub word : of_z w64 x ≡ a
  pub above : 0 < a
  pub below : a < 0x8000_0000_0000_0000

above_zero : (x : ℤ) → le_z x (pos 0) ≡ false → SFits w64 x → T (non_neg x) × Amount x (nat_abs x)
above_zero (pos n) h f = (tt, record { word = refl; above = leb-false n 0 h; below = f.sfits })
above_zero (negsuc n) h f = let z : ◌≡◌ {A = ℕ} 0 1 = cc in absurd (omega arith)

module _ (x : ℤ) (f : SFits w64 x) (h : le_z (to_z w64 (of_z w64 x)) (pos 0) ≡ false) where
  abbrev cells : ℕ
  cells = nat_abs (to_z w64 (of_z w64 x))

  pub amount-is : Amount x cells
  amount-is = rw (to_z-of_z w64 x f) (above_zero x (rw (to_z-of_z w64 x f) at h) f).1

-- an amount that stays young
pub stays-young : {w v : List ℕ} {b a : ℕ} → Image w (decode w) → Reads (λ h. h.young.cursor) w b → Turns (on_young (λ y. bump y a)) w v
    → (0 < a) × (a < (decode w).size.n - (decode w).young.cursor) → (roots : List ℕ) → roots_good roots ≡ true
    → allocated w roots (alloc (decode w) (cells_in roots) a)
    ≡ alloc_outcome (Ok (record { pointer = record { heap = 0; base = b; offset = pos 0 }; nursery = record { collections = 0; visits = 0 }; elder = record { collections = 0; visits = 0 } })) v roots
unfolding alloc allocated alloc_outcome with_young whole four_counts sweeps_of sum
stays-young {w} {v} {b} {a} i r t (above, few) roots e =
    let small : a < 0x8000_0000_0000_0000 = omega (arith, few, (bounded (decode w).size i.fit.sizes).n) in
    rw (lt-ltb 0 a above, lt-ltb a 0x8000_0000_0000_0000 small, lt-ltb a ((decode w).size.n - (decode w).young.cursor) few)
    (λ k. record { answer = ok (0 ∷ r.reads (decode w) i k ∷ 0 ∷ 0 ∷ 0 ∷ 0 ∷ 0 ∷ []); image = sym (t.turns (decode w) i).is k; roots = whole_back roots (root-cells roots e).0 k })

-- `alloc_formed`
module _ (w roots : List ℕ) (scratch : ℕ) (x : ℤ) where
  abbrev asked : Outcome
  asked = allocated w roots (alloc_on (decode w) roots scratch (of_z w64 x))

  pub roots-refused : roots_good roots ≡ false → asked ≡ alloc_outcome (Err question.Cells) w roots
  unfolding alloc_on allocated alloc_outcome
  roots-refused e = rw e

  module _ (good : roots_good roots ≡ true) where
    pub scratch-refused : scratch < scratch_length (decode w).size (length roots / 3) → asked ≡ alloc_outcome (Err question.Scratch) w roots
    unfolding alloc_on allocated alloc_outcome
    scratch-refused h = rw (good, lt-leb (scratch_length (decode w).size (length roots / 3)) scratch h)

    module _ (room : scratch_length (decode w).size (length roots / 3) ≤ scratch) where
      asked-alloc : asked ≡ allocated w roots (alloc (decode w) (cells_in roots) (of_z w64 x))
      unfolding alloc_on
      asked-alloc = rw (good, le-leb (scratch_length (decode w).size (length roots / 3)) scratch room)

      pub amount-refused : SFits w64 x → le_z (to_z w64 (of_z w64 x)) (pos 0) ≡ true → asked ≡ alloc_outcome (Err question.Amount) w roots
      unfolding alloc allocated alloc_outcome
      amount-refused f h = asked-alloc ∙ rw (not-above-zero x (rw (to_z-of_z w64 x f) at h) f)

      module _ {a : ℕ} (m : Amount x a) where
        pub asked-amount : asked ≡ allocated w roots (alloc (decode w) (cells_in roots) a)
        asked-amount = asked-alloc ∙ ap (λ (k : ℕ). allocated w roots (alloc (decode w) (cells_in roots) k)) m.word

        pub asked-collect : ltb a ((decode w).size.n - (decode w).young.cursor) ≡ false → asked ≡ allocated w roots (collect_and_alloc (decode w) (cells_in roots) a)
        unfolding alloc
        asked-collect h = asked-amount ∙ rw (lt-ltb 0 a m.above, lt-ltb a 0x8000_0000_0000_0000 m.below, h)
