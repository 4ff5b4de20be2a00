-- An alloc whose roots are the registers: 3 and 4 get a yes, and the answer, the image and the roots are those of the step.
use mathlib.Core.Path.{◌≡◌, refl, sym, ap, ◌∙◌}
use mathlib.Core.Bool.{true}
use mathlib.Core.List.{List, [], ◌∷◌}
use mathlib.Core.Option.{some}
use Prim.Native.Nat.{ℕ, ◌*◌, ◌/◌, ◌≤◌, ◌<◌}
use native.Mathlib.Omega.{arith}
use lib.ListN.{length, get_or, drop, set as put}
use mir.Syntax.{w64}
use mir.Val.{SFits}
use borrow.Author.Tests.{le-leb}
use Rattle.std.proofs.Common.{Result, Ok, Err}
use Rattle.question.specs.Question.{number}
use Rattle.question.specs.declared.Question.{Question}
use Rattle.question.specs.declared.Question.TheVariants.{Heap as NoHeap}
use Rattle.model.specs.Res.{Res, ok, refuse, ◌>>=◌}
use Rattle.model.specs.Records.{Ptr, ref, valid, all_valid, cell_words, whole_cells, whole}
use Rattle.model.specs.Image.{encode, decode}
use Rattle.model.specs.Collector.{Allocation as ModelAllocation, four_counts, alloc as alloc_in}
use Rattle.model.specs.Calls.{Outcome, cells_in, roots_good, scratch_length, alloc_on, allocated}
use Rattle.model.specs.Command.{alloc}
use Rattle.model.specs.Run.{holding, alloc_line, step}
use Rattle.theorems.specs.Program.{program_scratch}
use Rattle.theorems.proofs.Res.{holds_at}
use Rattle.theorems.proofs.Contents.{all_valid_lem, valid-all}
use Rattle.theorems.proofs.Cells.{whole_words, words-in}
use Rattle.theorems.proofs.Collect.{good-heap-fit, Told}
use Rattle.theorems.proofs.Calls.{alloc_told, new-valid}
use Rattle.theorems.proofs.Kept.{fit-good, refused-ok}
use Rattle.theorems.proofs.Program.{limited-scratch}
use Rattle.value.specs.declared.Value.TheVariants.{Pointer}
use Rattle.value.specs.Value.{value_cell}
use Rattle.collector.specs.Alloc.{alloc_outcome}
use Rattle.collector.specs.declared.Allocation.{Allocation}
use Rattle.registers.specs.declared.Registers.{Registers}
use Rattle.access.specs.Access.{pointer_of}
use Rattle.registers.specs.Cells.{cells_of_registers, GoodValue, Good}
use Rattle.registers.proofs.Values.{set-cells, set-good, values-valid, good-whole}
use Rattle.command.specs.declared.answers.Answer.{Answer}
use Rattle.command.specs.declared.answers.Answer.TheVariants as answer
use Rattle.command.specs.State.{state_of, Held}
use Rattle.command.specs.Steps.{Acts}
use Rattle.command.proofs.Heaps.{no-heap, the_heap_lem, refuses, answers, heap-encoded, held_after}

-- an answer's words as a pointer and four counts

abbrev pointer_of_words : Res (List ℕ) → Ptr
pointer_of_words (ok l) = record { heap = get_or l 0 0; base = get_or l 1 0; off = get_or l 2 0 }
pointer_of_words (refuse q) = whole 0 0

abbrev counts_of : Res (List ℕ) → List ℕ
counts_of (ok l) = drop 3 l
counts_of (refuse q) = []

-- the answer, the image and the roots are the model's
record Same (x : ModelAllocation) (a : Allocation) (v roots : List ℕ) : Type 0 where
  pointer : pointer_of a.pointer ≡ x.ptr
  counts : (a.nursery.collections ∷ a.nursery.visits ∷ a.elder.collections ∷ a.elder.visits ∷ []) ≡ four_counts x
  image : v ≡ encode x.heap
  roots-are : roots ≡ cell_words x.roots

module _ (w roots v roots' : List ℕ) where
  same_answer_lem : {a : Allocation} (m : Res ModelAllocation) → allocated w roots m ≡ alloc_outcome (Ok a) v roots' → (x : ModelAllocation) × (m ≡ ok x) × Same x a v roots'
  unfolding allocated alloc_outcome four_counts
  same_answer_lem (ok x) e =
      let words = ap (λ (o : Outcome). o.answer) e in
      (x, refl, record { pointer = sym (ap pointer_of_words words); counts = sym (ap counts_of words); image = sym (ap (λ (o : Outcome). o.image) e); roots-are = sym (ap (λ (o : Outcome). o.roots) e) })
  same_answer_lem (refuse q) e = absurd (refused-ok (ap (λ (o : Outcome). o.answer) e))

  same-refusal : (q : Question) (m : Res ModelAllocation) → allocated w roots m ≡ alloc_outcome (Err q) v roots' → (m ≡ refuse (number q)) × (v ≡ w)
  unfolding allocated alloc_outcome
  same-refusal q (ok x) e = absurd (refused-ok (sym (ap (λ (o : Outcome). o.answer) e)))
  same-refusal q (refuse p) e =
      let answer : refuse p ≡ refuse (number q) = ap (λ (o : Outcome). o.answer) e in
      let same : p ≡ number q = cc in
      (ap refuse same, sym (ap (λ (o : Outcome). o.image) e))

pub alloc-heapless : {w : List ℕ} {r r' : Registers} {a : Result Answer Question} (k amount : ℕ) → Held w → Good r → length w ≡ 0 → (a ≡ Err NoHeap) × (r' ≡ r) → Acts (alloc k amount) w r a w r'
unfolding step
alloc-heapless {w} {r} k amount h g e = refuses NoHeap h g (rw (no-heap w r e))

-- what alloc is called with: an image that is held, the registers' words, n words of scratch
pub record Lent (w : List ℕ) (r : Registers) (roots : List ℕ) (n : ℕ) : Type 0 where
  pub held : Held w
  pub there : 0 < length w
  pub good : Good r
  pub words : roots ≡ cell_words (cells_of_registers r)
  pub long : length roots ≡ 48
  pub room : program_scratch ≤ n

module _ {w : List ℕ} {r : Registers} {roots : List ℕ} {n : ℕ} (l : Lent w r roots n) (amount : ℕ) where
  valid_cells : all_valid (cells_of_registers r) ≡ true
  valid_cells = values-valid r.cells l.good.values

  all_asked : alloc_on (decode w) roots n amount ≡ alloc_in (decode w) (cells_of_registers r) amount
  unfolding alloc_on roots_good
  all_asked =
      let cells : whole_cells roots ≡ true = rw l.words (good-whole r l.good) in
      let sixteen : length roots / 3 ≡ 16 = omega (arith, l.long) in
      let fits : scratch_length (decode w).size 16 ≤ n = omega (arith, l.room, limited-scratch (decode w).size (l.held.bounded l.there)) in
      rw (cells, le-leb (length roots) (3 * 4096) (omega (arith, l.long)), sixteen, le-leb (scratch_length (decode w).size 16) n fits, l.words, words-in (cells_of_registers r) valid_cells)

  step_is : (k : ℕ) → step (alloc k amount) (state_of w r) ≡ (alloc_in (decode w) (cells_of_registers r) amount >>= λ x. ok (alloc_line x.ptr (four_counts x), holding (some x.heap) (put x.roots k (ref x.ptr)) (state_of w r)))
  unfolding step state_of
  step_is k = rw (the_heap_lem w r l.there)

  same-acts : {x : ModelAllocation} {a : Allocation} {v roots' : List ℕ} → alloc_in (decode w) (cells_of_registers r) amount ≡ ok x → Told ⊥ (decode w) (cells_of_registers r) x → Same x a v roots'
      → (moved s : Registers) (k : ℕ) → cells_of_registers moved ≡ cells_in roots' → cells_of_registers s ≡ put (cells_of_registers moved) k (ref (pointer_of a.pointer)) → Good s → Acts (alloc k amount) w r (Ok (answer.Alloc a)) v s
  same-acts {x} gave told same moved s k from now good =
      let fit = good-heap-fit told.good in
      let back = words-in x.roots (valid-all x.roots told.roots-valid) in
      answers (rw (step_is k, gave, same.counts, same.image, heap-encoded fit, now, from, same.roots-are, back, same.pointer)) tt (rw same.image (held_after fit l.held l.there told.same_size)) good

  module _ (o : Result Allocation Question) (v roots' : List ℕ) (e : allocated w roots (alloc_on (decode w) roots n amount) ≡ alloc_outcome o v roots') where
    pub alloc-refused : {q : Question} {b : Result Answer Question} {r' : Registers} (k : ℕ) → o ≡ Err q → (b ≡ Err q) × (r' ≡ r) → Acts (alloc k amount) w r b v r'
    alloc-refused {q} k f s =
        let (no_answer, same) = same-refusal w roots v roots' _ _ (ap (allocated w roots) (sym all_asked) ∙ e ∙ ap (λ (x : Result Allocation Question). alloc_outcome x v roots') f) in
        rw same (refuses q l.held l.good (rw (step_is k, no_answer)) s)

    module _ {a : Allocation} (f : o ≡ Ok a) where
      answered : (x : ModelAllocation) × (alloc_in (decode w) (cells_of_registers r) amount ≡ ok x) × Same x a v roots'
      answered = same_answer_lem w roots v roots' _ (ap (allocated w roots) (sym all_asked) ∙ e ∙ ap (λ (x : Result Allocation Question). alloc_outcome x v roots') f)

      told : Told ⊥ (decode w) (cells_of_registers r) answered.0
      told = (holds_at (alloc_told ⊥ (decode w) (cells_of_registers r) amount (fit-good (l.held.formed l.there).fit) (all_valid_lem (cells_of_registers r) valid_cells)) answered.1).0

      pub roots-whole : whole_cells roots' ≡ true
      roots-whole = rw answered.2.roots-are (whole_words answered.0.roots (valid-all answered.0.roots told.roots-valid))

      pointer-good : SFits w64 a.pointer.offset → GoodValue (Pointer a.pointer)
      unfolding valid value_cell
      pointer-good s = record { cell = rw (ap (λ (p : Ptr). p.heap) answered.2.pointer) (holds_at (new-valid (decode w) (cells_of_registers r) amount) answered.1); whole = tt; ranged = s }

      pub alloc-acts : (moved s : Registers) (k : ℕ) → cells_of_registers moved ≡ cells_in roots' → Good moved → SFits w64 a.pointer.offset → s.cells ≡ put moved.cells k (Pointer a.pointer) → Acts (alloc k amount) w r (Ok (answer.Alloc a)) v s
      unfolding value_cell
      alloc-acts moved s k from good fits now = same-acts answered.1 told answered.2 moved s k from (set-cells moved s k (Pointer a.pointer) now) (set-good moved s k (Pointer a.pointer) now good (pointer-good fits))
