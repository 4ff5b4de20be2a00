-- The answers of the code's functions against the model's.
use mathlib.Core.Path.{◌≡◌, refl, sym, ap, subst, ◌∙◌}
use mathlib.Core.Bool.{Bool, true, false, ◌&&◌}
use mathlib.Core.List.{List, [], ◌∷◌}
use Prim.Native.Nat.{ℕ, zero, suc, ◌+◌, ◌-◌, ◌≤◌, ◌<◌}
use native.Mathlib.Omega.{arith}
use lib.Dec.{ltb, leb}
use lib.IntN.{ℤ}
use lib.ListN.{get_or}
use mir.Syntax.{w64}
use mir.Val.{of_z}
use borrow.Author.Tests.{ltb-true, leb-true}
use Rattle.model.specs.Res.{Res, ok, refuse, ◌>>=◌, ask}
use Rattle.model.specs.Records.{Ptr, Cell, blank, biased, sum_fits, cell_words, cell_of, valid_words}
use Rattle.model.specs.Heap.{Heap}
use Rattle.model.specs.Image.{decode}
use Rattle.model.specs.Collector.{young_at, read}
use Rattle.model.specs.Calls.{opened, read_on, reads, call}
use Rattle.std.specs.Prelude.{Result, Ok, Err}
use Rattle.question.specs.Question.{number}
use Rattle.question.specs.declared.Question.{Question}
use Rattle.question.specs.declared.Question.TheVariants.{Access}
use Rattle.value.specs.declared.Value.{Value}
use Rattle.value.specs.declared.Pointer.{Pointer}
use Rattle.trace.specs.Words.{pointer}
use Rattle.slots.specs.Slots.{answer, valid_old, ReadBy}
use Rattle.std.specs.Prelude.{Option, Some, None}
use Rattle.value.specs.declared.Words.{Words}
use Rattle.access.specs.Access.{pointer_of, loaded_cell, loaded_outcome, place_answer, ValueOf, Loads, LoadsFrom}

-- the pointer, by its fields
pub pointer_is : (p : Pointer) (k : ℕ) (x : ℤ) → p.heap ≡ k → x ≡ p.offset → pointer k p.base (of_z w64 x) ≡ pointer_of p
pointer_is p k x e f = λ i. record { heap = sym e i; base = p.base; off = of_z w64 (f i) }

-- an answer, by its cases

loads-refused : {m : Res Cell} (q : Question) → m ≡ refuse (number q) → Loads m (Err q)
unfolding loaded_cell
loads-refused q e = record { cell = sym e; whole = tt; ranged = tt }

pub value_as : {c d : Cell} {v : Value} → c ≡ d → ValueOf c v → ValueOf d v
value_as e s = record { cell = s.cell ∙ e; whole = s.whole; ranged = s.ranged }

loads-value : {m : Res Cell} {c : Cell} {v : Value} → ValueOf c v → m ≡ ok c → Loads m (Ok v)
unfolding loaded_cell
loads-value s e = record { cell = ap ok s.cell ∙ sym e; whole = s.whole; ranged = s.ranged }

-- a call's outcome

outcome-is : (w : List ℕ) (p : Ptr) (r : Result Value Question) → (opened w >>= λ h. read_on h p) ≡ (loaded_cell r >>= λ c. ok (cell_words (c ∷ []))) → call (reads p) w ≡ loaded_outcome r w
unfolding call loaded_cell loaded_outcome
outcome-is w p (Ok v) e = λ k. record { answer = e k; image = w; roots = [] }
outcome-is w p (Err q) e = λ k. record { answer = e k; image = w; roots = [] }

pub loads-formed : (w : List ℕ) (p : Ptr) {r : Result Value Question} → read_on (decode w) p ≡ (opened w >>= λ h. read_on h p) → Loads (read (decode w) p) r → LoadsFrom w p r
unfolding read_on
loads-formed w p {r} e l = record { outcome = outcome-is w p r (sym e ∙ ap (λ (m : Res Cell). m >>= λ c. ok (cell_words (c ∷ []))) (sym l.cell)); whole = l.whole; ranged = l.ranged }

pub loads-unformed : (w : List ℕ) (p : Ptr) (q : Question) → refuse (number q) ≡ (opened w >>= λ h. read_on h p) → LoadsFrom w p (Err q)
unfolding loaded_cell
loads-unformed w p q e = record { outcome = outcome-is w p (Err q) (sym e); whole = tt; ranged = tt }

-- heap 0

module _ (h : Heap) (b o : ℕ) {r : Result ℕ Question} (e : place_answer r ≡ young_at h (pointer 0 b o)) where
  pub young-refused : (q : Question) → r ≡ Err q → Loads (read h (pointer 0 b o)) (Err q)
  unfolding read
  young-refused q f = let y : young_at h (pointer 0 b o) ≡ refuse (number q) = sym e ∙ ap place_answer f in loads-refused q (rw y)

  pub young-loaded : (i : ℕ) (v : Value) → r ≡ Ok i → ValueOf (get_or h.young.cells i blank) v → Loads (read h (pointer 0 b o)) (Ok v)
  unfolding read
  young-loaded i v f g = let y : young_at h (pointer 0 b o) ≡ ok i = sym e ∙ ap place_answer f in loads-value g (rw y)

-- an index that is answered lies in the nursery
pub young-inside : (h : Heap) (p : Ptr) (i : ℕ) {r : Result ℕ Question} → place_answer r ≡ young_at h p → r ≡ Ok i → i < h.size.n
unfolding young_at
young-inside h p i e f = go (sum_fits p.base p.off) (leb 0x1_0000_0000_0000_0000 s) (ltb s (0x1_0000_0000_0000_0000 + h.size.n)) refl refl (ap place_answer (sym f) ∙ e)
  where
    s : ℕ
    s = biased p.base + biased p.off

    go : (a b t : Bool) → leb 0x1_0000_0000_0000_0000 s ≡ b → ltb s (0x1_0000_0000_0000_0000 + h.size.n) ≡ t → ok i ≡ (ask 9 a >>= λ _. ask 8 (b && t) >>= λ _. ok (s - 0x1_0000_0000_0000_0000)) → i < h.size.n
    go true true true u v k =
        let x : i ≡ s - 0x1_0000_0000_0000_0000 = cc in
        let y : 0x1_0000_0000_0000_0000 ≤ s = leb-true 0x1_0000_0000_0000_0000 s u in
        let z : s < 0x1_0000_0000_0000_0000 + h.size.n = ltb-true s (0x1_0000_0000_0000_0000 + h.size.n) v in
        omega arith
    go true true false u v k = let z : ◌≡◌ {A = ℕ} 0 1 = cc in absurd (omega arith)
    go true false t u v k = let z : ◌≡◌ {A = ℕ} 0 1 = cc in absurd (omega arith)
    go false b t u v k = let z : ◌≡◌ {A = ℕ} 0 1 = cc in absurd (omega arith)

-- heap 1

pub read_at : (h : Heap) (b : ℕ) {o x : ℕ} {r : Option Words} → o ≡ x → ReadBy (read h (pointer 1 b o)) r → ReadBy (read h (pointer 1 b x)) r
read_at h b {r = r} e d = subst (λ (k : ℕ). ReadBy (read h (pointer 1 b k)) r) e d

module _ {m : Res Cell} {r : Option Words} (d : ReadBy m r) where
  pub old-none : r ≡ None → Loads m (Err Access)
  unfolding answer
  old-none e = loads-refused Access (sym d.is ∙ ap answer e)

  pub old-valid : (w : Words) → r ≡ Some w → valid_words w.tag w.payload w.offset ≡ true
  unfolding valid_old
  old-valid w e = ap valid_old (sym e) ∙ d.valid

  pub old-loaded : (w : Words) (v : Value) → r ≡ Some w → ValueOf (cell_of w.tag w.payload w.offset) v → Loads m (Ok v)
  unfolding answer
  old-loaded w v e s = loads-value s (sym d.is ∙ ap answer e)

-- any other heap
pub other-heap : (h : Heap) (p : Ptr) → 2 ≤ p.heap → Loads (read h p) (Err Access)
unfolding read
other-heap h p l = loads-refused Access (go p.heap refl)
  where
    go : (k : ℕ) → p.heap ≡ k → read h p ≡ refuse 8
    go zero e = absurd (omega arith)
    go (suc zero) e = absurd (omega arith)
    go (suc (suc k)) e = rw e
