-- Reading: a command file is read to its end or its first malformed command. There is one line for each command, and all bytes
-- are consumed or the last line is `no 12`.
use Rattle.std.specs.Prelude.{◌≡◌, Bool, true, not, ◌&&◌, ℕ, suc, eqb, length}
use mathlib.Core.List.{List, [], ◌∷◌, ◌++◌, Memᴰ}
use Rattle.model.specs.Lists.{flat}
use Rattle.model.specs.Res.{ok, refuse}
use Rattle.model.specs.Command.{Command, parse}
use Rattle.model.specs.Run.{no_line}
use Rattle.model.specs.Listing.{line, lines, listing}

-- the commands that follow one another in the bytes, each with a byte of its own and its operands, and the bytes that are left
pub data Parsed : List ℕ → List Command → List ℕ → Type 0 where
  end : Parsed [] [] []
  malformed : {b : ℕ} {w : List ℕ} → parse (b ∷ w) ≡ refuse 12 → Parsed (b ∷ w) [] (b ∷ w)
  command : {op : ℕ} {w rest left : List ℕ} {c : Command} {cs : List Command} (operands : List ℕ) → parse w ≡ ok (c, rest) → w ≡ op ∷ operands ++ rest → Parsed rest cs left → Parsed w (c ∷ cs) left

-- an LF at the end, and no other

unfoldable pub no_lf : List ℕ → Bool
no_lf [] = true
no_lf (b ∷ w) = not (eqb b 0x0A) && no_lf w

pub record IsLine (l : List ℕ) : Type 0 where
  pub text : List ℕ
  pub one : no_lf text ≡ true
  pub ends : l ≡ text ++ 0x0A ∷ []

-- the line after those of n commands, if bytes are left
abbrev pub last_line : ℕ → List ℕ → List (List ℕ)
last_line n [] = []
last_line n (b ∷ w) = line (suc n) (no_line 12) ∷ []

-- a file within 65,536 bytes
pub record ReadThrough (file : List ℕ) : Type 0 where
  pub commands : List Command
  pub left : List ℕ
  pub parsed : Parsed file commands left
  pub answers : List (List ℕ)
  pub one_each : length answers ≡ length commands
  pub all_lines : lines file ≡ answers ++ last_line (length commands) left
  pub each_is : (l : List ℕ) → Memᴰ l (lines file) → IsLine l
  pub bytes : listing file ≡ flat (lines file)
