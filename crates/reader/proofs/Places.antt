-- What stands at a place of a file, by the tests that the code makes.
use mathlib.Core.Path.{◌≡◌}
use mathlib.Core.List.{List}
use mathlib.Core.Option.{none, some}
use Prim.Native.Nat.{ℕ, suc, ◌+◌, ◌-◌, ◌≤◌, ◌<◌}
use native.Mathlib.Numerals.{add-one}
use native.Mathlib.Omega.{arith}
use lib.ListN.{length, get_or, take, drop, length-drop, drop_of_length-le}
use lib.Seq.{drop-cons}
use borrow.Author.Tests.{le-leb, lt-leb}
use Rattle.model.specs.Res.{ok, refuse}
use Rattle.model.specs.Command.{Command, opcodes, operand_bytes, command_of, parse}
use Rattle.reader.specs.Answer.{with_registers, next_at}
use Rattle.reader.proofs.Registers.{by_true, by_false}

pub stands-none : (file : List ℕ) (at : ℕ) → length file ≤ at → ok none ≡ next_at file at
unfolding next_at
stands-none file at h = rw (drop_of_length-le file h)

module _ (file : List ℕ) (at : ℕ) (h : at < length file) where
  abbrev op : ℕ
  op = get_or file at 0

  -- the bytes after it
  abbrev w : List ℕ
  w = drop (suc at) file

  w-length : length w ≡ length file - (at + 1)
  w-length = omega (arith, length-drop (suc at) file)

  pub stands-unknown : {q : ℕ} → refuse q ≡ operand_bytes opcodes op → refuse q ≡ next_at file at
  unfolding next_at parse
  stands-unknown e = rw (drop-cons file at 0 h, ← e)

  module _ {k : ℕ} (e : ok k ≡ operand_bytes opcodes op) where
    pub stands-short : length file - (at + 1) < k → refuse 12 ≡ next_at file at
    unfolding next_at parse
    stands-short s = rw (drop-cons file at 0 h, ← e, lt-leb k (length w) (omega (arith, w-length)))

    module _ (room : k ≤ length file - (at + 1)) where
      -- the operands as the code lends them
      abbrev lent : List ℕ
      lent = take (at + 1 + k - (at + 1)) (drop (at + 1) file)

      lent_is : lent ≡ take k w
      lent_is = let n : at + 1 + k - (at + 1) ≡ k = omega arith in rw (n, add-one)

      pub stands-high : {q : ℕ} → refuse q ≡ with_registers (command_of op lent) → refuse q ≡ next_at file at
      unfolding next_at parse
      stands-high is =
          let (high, twelve) = by_false (command_of op lent) _ is in
          rw (drop-cons file at 0 h, ← e, le-leb k (length w) (omega (arith, w-length)), ← lent_is, high, twelve)

      pub stands-command : {m : Command} → ok m ≡ with_registers (command_of op lent) → ok (some (m, at + 1 + k)) ≡ next_at file at
      unfolding next_at parse
      stands-command is =
          let (low, same) = by_true (command_of op lent) _ is in
          let behind : length file - length (drop k w) ≡ at + 1 + k = omega (arith, length-drop k w, w-length) in
          rw (drop-cons file at 0 h, ← e, le-leb k (length w) (omega (arith, w-length)), ← lent_is, low, same, behind)
