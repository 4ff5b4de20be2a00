-- Replies by the cases of an answer, and carried along equal answers.
use mathlib.Core.Path.{◌≡◌, refl, sym, ap, subst, ◌∙◌}
use mathlib.Core.List.{List, [], ◌∷◌}
use Rattle.std.specs.Prelude.{Result, Ok, Err}
use Prim.Native.Nat.{ℕ}
use mir.Syntax.{w64}
use lib.IntN.{ℤ}
use mir.Val.{SFits, to_z, of_z}
use mir.ValLaws.{to_z-of_z}
use Rattle.model.specs.Res.{Res, ok, ◌>>=◌}
use Rattle.model.specs.Records.{cell_words}
use Rattle.model.specs.Calls.{Outcome}
use Rattle.question.specs.Question.{number, answer}
use Rattle.question.specs.declared.Question.{Question}
use Rattle.value.specs.declared.Value.{Value}
use Rattle.value.specs.Value.{value_cell}
use Rattle.image.specs.Answers.{made_outcome}
use Rattle.access.specs.Access.{loaded_outcome}
use Rattle.collector.specs.Alloc.{alloc_outcome}
use Rattle.collector.specs.declared.Allocation.{Allocation}
use Rattle.report.specs.Numbers.{numbers, report_outcome}
use Rattle.report.specs.declared.Statistics.{Statistics}
use Rattle.heap_c.specs.Replies.{number_of, out_of, allocation_words, Answers, Leaves, Reports, Allocates}

-- an i64 that is handed on, as the machine reads it back
pub as-given : (x : ℤ) → SFits w64 x → {A : Type 0} (f : ℤ → A) {a : A} → f (to_z w64 (of_z w64 x)) ≡ a → f x ≡ a
as-given x s f e = ap f (sym (to_z-of_z w64 x s)) ∙ e

-- new and write

pub done-ok : {r : Result (Unit {0}) Question} → r ≡ Ok tt → (v : List ℕ) → Leaves (made_outcome r v) 0 v
unfolding number_of made_outcome
done-ok e v = rw e (record { number = refl; image = refl })

pub done-err : {r : Result (Unit {0}) Question} {q : Question} {n : ℕ} → r ≡ Err q → n ≡ number q → (v : List ℕ) → Leaves (made_outcome r v) n v
unfolding number_of made_outcome
done-err e m v = rw e (record { number = m; image = refl })

-- the words of the cell that is read are the call's
pub loaded-words : (r : Result Value Question) {o : Outcome} (w : List ℕ) → o ≡ loaded_outcome r w → answer (λ v. cell_words (value_cell v ∷ [])) r ≡ o.answer
unfolding loaded_outcome
loaded-words (Ok v) w e = ap (λ (o : Outcome). o.answer) (sym e)
loaded-words (Err q) w e = ap (λ (o : Outcome). o.answer) (sym e)

-- alloc

pub words-in : (a : Allocation) {x : ℕ} → x ≡ of_z w64 a.pointer.offset → a.pointer.heap ∷ a.pointer.base ∷ x ∷ a.nursery.collections ∷ a.nursery.visits ∷ a.elder.collections ∷ a.elder.visits ∷ [] ≡ allocation_words a
unfolding allocation_words
words-in a e = ap (λ (x : ℕ). a.pointer.heap ∷ a.pointer.base ∷ x ∷ a.nursery.collections ∷ a.nursery.visits ∷ a.elder.collections ∷ a.elder.visits ∷ []) e

pub allocates : (r : Result Allocation Question) {n : ℕ} {out before : List ℕ} → Answers (answer allocation_words r) before n out → (v roots : List ℕ) → Allocates (alloc_outcome r v roots) before n out v roots
unfolding allocation_words alloc_outcome
allocates r a v roots = record { answers = a; image = refl; roots = refl }

-- report

pub reports : (r : Result Statistics Question) {n : ℕ} {out before : List ℕ} → Answers (answer numbers r) before n out → (v : List ℕ) → Reports (report_outcome r v) before n out v
unfolding report_outcome
reports r a v = record { answers = a; image = refl }

-- an answer's words, by its value as the model has it
pub words-of-answer : {T A : Type 0} (f : T → A) (g : A → List ℕ) (r : Result T Question) → answer (λ t. g (f t)) r ≡ (answer f r >>= λ a. ok (g a))
words-of-answer f g (Ok x) = refl
words-of-answer f g (Err q) = refl

pub answers-ok : {T : Type 0} (f : T → List ℕ) {r : Result T Question} {x : T} {out before : List ℕ} → r ≡ Ok x → out ≡ f x → Answers (answer f r) before 0 out
unfolding number_of out_of
answers-ok f {out = out} {before = before} e w = rw e (record { number = refl; written = w })

pub answers-err : {T : Type 0} (f : T → List ℕ) {r : Result T Question} {q : Question} {n : ℕ} {before : List ℕ} → r ≡ Err q → n ≡ number q → Answers (answer f r) before n before
unfolding number_of out_of
answers-err f {before = before} e m = rw e (record { number = m; written = refl })

-- carried along

pub reports-as : {o p : Outcome} {before : List ℕ} {r : ℕ} {out v : List ℕ} → o ≡ p → Reports p before r out v → Reports o before r out v
reports-as {before = before} {r = r} {out = out} {v = v} e = subst (λ (x : Outcome). Reports x before r out v) (sym e)

pub answers-as : {a b : Res (List ℕ)} {before : List ℕ} {r : ℕ} {out : List ℕ} → a ≡ b → Answers a before r out → Answers b before r out
answers-as {before = before} {r = r} {out = out} e = subst (λ (x : Res (List ℕ)). Answers x before r out) e

pub allocates-as : {o p : Outcome} {before : List ℕ} {r : ℕ} {out v roots : List ℕ} → o ≡ p → Allocates p before r out v roots → Allocates o before r out v roots
allocates-as {before = before} {r = r} {out = out} {v = v} {roots = roots} e = subst (λ (x : Outcome). Allocates x before r out v roots) (sym e)
