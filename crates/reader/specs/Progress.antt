-- A file that is read command by command.
use Rattle.std.specs.Prelude.{◌≡◌, List, ◌++◌, ℕ, ◌≤◌, ◌<◌, length, drop}
use Rattle.model.specs.Res.{ok}
use Rattle.model.specs.Command.{Command, parse, parse_all}

-- a command stands at a place, and its rest begins at another, further on
pub record Passed (file : List ℕ) (at : ℕ) (c : Command) (behind : ℕ) : Type 0 where
  pub parsed : parse (drop at file) ≡ ok (c, drop behind file)
  pub further : at < behind
  pub within : behind ≤ length file

-- the commands read up to a place, before those that are left, are the whole file's
pub record ReadTo (file : List ℕ) (cs : List Command) (at : ℕ) : Type 0 where
  pub within : at ≤ length file
  pub whole : parse_all file ≡ (cs ++ (parse_all (drop at file)).0, (parse_all (drop at file)).1)
