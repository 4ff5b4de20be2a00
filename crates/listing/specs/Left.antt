-- What is still to be printed of a file's listing, and what a run has printed of it.
use Rattle.std.specs.Prelude.{◌≡◌, Bool, true, false, List, [], ◌∷◌, ◌++◌, ℕ, ◌+◌, ◌≤◌, ◌<◌, leb, length, take, drop, Result}
use Rattle.std.proofs.Math.Option.{Option, none}
use Rattle.model.specs.Lists.{flat}
use Rattle.model.specs.Res.{Res, ok, refuse}
use Rattle.model.specs.Command.{Command, parse_all}
use Rattle.model.specs.Run.{State}
use Rattle.model.specs.Listing.{line, lines_from, longest_file, listing}
use Rattle.question.specs.declared.Question.{Question}
use Rattle.figure.specs.Written.{Wrote}
use Rattle.reader.specs.Answer.{next_at}
use Rattle.command.specs.declared.answers.Answer.{Answer}
use Rattle.command.specs.Answers.{answer_line}
use Rattle.command.specs.State.{state_in, Ready}
use Rattle.listing.specs.declared.Run.{Run}

-- what stands at a place; in a file that is too long nothing is a command

abbrev pub too_long : List ℕ → Res (Option (Command × ℕ))
too_long [] = ok none
too_long (b ∷ w) = refuse 12

abbrev pub by_length : {A : Type 0} → Bool → A → A → A
by_length true short long = short
by_length false short long = long

unfoldable pub stands_at : List ℕ → ℕ → Res (Option (Command × ℕ))
stands_at file at = by_length (leb (length file) longest_file) (next_at file at) (too_long (drop at file))

-- the commands from a place on, and the bytes behind them
unfoldable pub commands_from : List ℕ → ℕ → List Command × List ℕ
commands_from file at = by_length (leb (length file) longest_file) (parse_all (drop at file)) ([], drop at file)

-- from a place on, with the number of the next command and the state before it
unfoldable pub listing_from : List ℕ → ℕ → ℕ → State → List ℕ
listing_from file at n s = flat (lines_from n s (commands_from file at).0 (commands_from file at).1)

-- what a run still has to print
unfoldable pub left_of : List ℕ → List ℕ → Run → List ℕ
left_of file buffer r = listing_from file r.at r.number (state_in buffer r.state)

-- a run that can go on: no more commands than bytes came before
pub record Going (file buffer : List ℕ) (r : Run) : Type 0 where
  pub within : r.at ≤ length file
  pub counted : r.number ≤ r.at + 1
  pub ready : Ready buffer r.state

-- one command's answer: its line stood before what is left now
pub record Answers (file buffer : List ℕ) (r : Run) (a : Result Answer Question) (buffer' : List ℕ) (r' : Run) : Type 0 where
  pub listed : line r.number (answer_line a) ++ left_of file buffer' r' ≡ left_of file buffer r
  pub further : r.at < r'.at
  pub going : Going file buffer' r'

-- one command's line was written at a place of `out`
pub record Advances (file buffer : List ℕ) (r : Run) (out : List ℕ) (at : ℕ) (buffer' : List ℕ) (r' : Run) (out' : List ℕ) (end : ℕ) : Type 0 where
  pub text : List ℕ
  pub wrote : Wrote text out at out' end
  pub listed : text ++ left_of file buffer' r' ≡ left_of file buffer r
  pub further : r.at < r'.at
  pub going : Going file buffer' r'

-- `out` begins with whole lines; behind them stands in the listing what is left
pub record Fills (file buffer : List ℕ) (r : Run) (buffer' : List ℕ) (r' : Run) (out : List ℕ) (used : ℕ) : Type 0 where
  pub inside : used ≤ length out
  pub listed : take used out ++ left_of file buffer' r' ≡ left_of file buffer r
  pub further : r.at < length file → r.at < r'.at
  pub going : Going file buffer' r'

-- what a run has printed: what was filled, one behind the other
pub data Printed (file : List ℕ) : List ℕ → Run → List ℕ → Type 0 where
  nothing : {buffer : List ℕ} {r : Run} → left_of file buffer r ≡ listing file → Printed file buffer r []
  more : {buffer buffer' out printed : List ℕ} {r r' : Run} {used : ℕ} → Printed file buffer r printed → Fills file buffer r buffer' r' out used → Printed file buffer' r' (printed ++ take used out)
