-- What a function that writes a text leaves.
use Rattle.std.specs.Prelude.{◌≡◌, List, ◌++◌, ℕ, ◌+◌, ◌≤◌, length, take, drop}
use Rattle.figure.specs.declared.text.Text.{Text}

-- the text from a place on, the rest as it was
unfoldable pub written : List ℕ → ℕ → List ℕ → List ℕ
written out at text = take at out ++ text ++ drop (at + length text) out

-- the text had room, and `end` is the place behind it
pub record Wrote (text before : List ℕ) (at : ℕ) (after : List ℕ) (end : ℕ) : Type 0 where
  pub room : at + length text ≤ length before
  pub bytes : after ≡ written before at text
  pub behind : end ≡ at + length text

-- so many bytes stand behind the place
abbrev pub Room : ℕ → Text → Type 0
Room k t = t.at + k ≤ length t.out.now

-- a text was written at the place, which is behind it now, in the bytes that were lent
pub record Writes (text : List ℕ) (before after : Text) : Type 0 where
  pub wrote : Wrote text before.out.now before.at after.out.now after.at
  pub kept : length after.out.now ≡ length before.out.now
  pub same : after.out.ghost_name ≡ before.out.ghost_name
