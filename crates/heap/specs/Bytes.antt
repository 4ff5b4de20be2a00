-- Bytes that come in and bytes that are handed on, by their number: no contract speaks of what a descriptor gives or takes.
use Rattle.std.specs.Prelude.{◌≡◌, Bool, true, List, ℕ, ◌+◌, ◌≤◌, ◌<◌, length, take}
use Rattle.model.specs.Listing.{listing}

-- one read into a buffer: the bytes in front stay, and those that came stand behind them
pub record Comes (before : List ℕ) (len came : ℕ) (after : List ℕ) (end : ℕ) : Type 0 where
  pub stays : take len after ≡ take len before
  pub behind : end ≡ len + came
  pub within : end ≤ length after

-- reading stops once nothing comes, or the buffer is full
pub record Stops (file : List ℕ) (len came : ℕ) : Type 0 where
  pub within : len ≤ length file
  pub full : 0 < came → len ≡ length file

-- a file's listing, as long as it is; a part of it if a write failed
pub record Prints (file : List ℕ) (len : ℕ) (written : Bool) : Type 0 where
  pub most : len ≤ length (listing file)
  pub all : written ≡ true → len ≡ length (listing file)
