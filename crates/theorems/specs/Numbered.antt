-- Every refusal has a number of document 01: each kind of call and command has its own.
use mathlib.Core.List.{List, [], ◌∷◌, Memᴰ}
use Rattle.std.specs.Prelude.{ℕ}
use Rattle.model.specs.Res.{Res, ok, refuse}
use Rattle.model.specs.Calls.{Call, allocs, reads, writes}
use Rattle.model.specs.Command.{Command, new, alloc, set, load, store, report, figure}

-- it is answered, or refused by one of these questions
pub data Numbered (qs : List ℕ) {A : Type 0} : Res A → Type 0 where
  answered : {a : A} → Numbered qs (ok a)
  numbered : {q : ℕ} → Memᴰ q qs → Numbered qs (refuse q)

-- what a heap asks, once its image is known to be formed

unfoldable pub alloc_questions : List ℕ
alloc_questions = 5 ∷ 6 ∷ 7 ∷ 10 ∷ 11 ∷ []

unfoldable pub read_questions : List ℕ
read_questions = 9 ∷ 8 ∷ []

unfoldable pub write_questions : List ℕ
write_questions = 9 ∷ 8 ∷ 10 ∷ 11 ∷ []

-- no 6: the nursery's collection has no members
unfoldable pub report_questions : List ℕ
report_questions = 11 ∷ 10 ∷ []

-- the library's calls

unfoldable pub call_numbers : Call → List ℕ
call_numbers (allocs roots scratch amount) = 1 ∷ 2 ∷ 3 ∷ 4 ∷ alloc_questions
call_numbers (reads p) = 1 ∷ 2 ∷ read_questions
call_numbers (writes p value) = 1 ∷ 2 ∷ 3 ∷ write_questions

unfoldable pub report_numbers : List ℕ
report_numbers = 1 ∷ 2 ∷ report_questions

unfoldable pub new_numbers : List ℕ
new_numbers = 1 ∷ []

-- the commands; the 9 of load and store is the added offset's too
unfoldable pub command_numbers : Command → List ℕ
command_numbers (new z) = 14 ∷ 1 ∷ []
command_numbers (alloc r a) = 14 ∷ alloc_questions
command_numbers (set r a b o) = 3 ∷ []
command_numbers (load r p d) = 14 ∷ 13 ∷ read_questions
command_numbers (store r p d) = 14 ∷ 13 ∷ write_questions
command_numbers report = 14 ∷ report_questions
command_numbers (figure r) = 15 ∷ []
