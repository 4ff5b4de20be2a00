-- A file that is read command by command: each answer at a place says what is left there, and what was read grows by it.
use mathlib.Core.Path.{◌≡◌, refl, sym, ap, ◌∙◌}
use mathlib.Core.Bool.{Bool, true, false}
use mathlib.Core.List.{List, [], ◌∷◌, ◌++◌, append-nil}
use mathlib.Core.Option.{Option, none, some}
use Prim.Native.Nat.{ℕ, suc, ◌+◌, ◌-◌, ◌≤◌}
use native.Mathlib.Omega.{arith}
use lib.Dec.{leb}
use lib.ListN.{length, take, drop, length-drop}
use lib.Seq.{drop-drop, append_snoc}
use borrow.Author.Tests.{leb-true}
use Rattle.model.specs.Lists.{all_at_most}
use Rattle.model.specs.Res.{Res, ok, refuse, ◌>>=◌, ask}
use Rattle.model.specs.Command.{Command, opcodes, operand_bytes, command_of, registers_of, parse, parse_up_to, parse_all}
use Rattle.theorems.proofs.Reading.{unroll, stop}
use Rattle.reader.specs.Answer.{placed, next_of, next_at}
use Rattle.reader.specs.Progress.{Passed, ReadTo}

-- What a parse leaves: the bytes behind the operands

data Leaves (w : List ℕ) : Res (Command × List ℕ) → Type 0 where
  leaves : {c : Command} (k : ℕ) → k ≤ length w → Leaves w (ok (c, drop k w))
  refused : {q : ℕ} → Leaves w (refuse q)

module _ {w : List ℕ} where
  asked : (t : Bool) (f : Unit {0} → Res (Command × List ℕ)) → (t ≡ true → Leaves w (f tt)) → Leaves w (ask 12 t >>= f)
  asked true f g = g refl
  asked false f g = refused

  known : (n : Res ℕ) (f : ℕ → Res (Command × List ℕ)) → ((k : ℕ) → Leaves w (f k)) → Leaves w (n >>= f)
  known (ok k) f g = g k
  known (refuse q) f g = refused

parse-leaves : (b : ℕ) (w : List ℕ) → Leaves w (parse (b ∷ w))
unfolding parse
parse-leaves b w =
    known (operand_bytes opcodes b) _ λ k.
    asked (leb k (length w)) _ λ fits.
    asked (all_at_most 15 (registers_of (command_of b (take k w)))) _ λ _.
    leaves k (leb-true k (length w) fits)

-- What an answer at a place comes from

data Found (n : ℕ) : List ℕ → Res (Option (Command × ℕ)) → Type 0 where
  end : Found n [] (ok none)
  command : {b : ℕ} {w rest : List ℕ} {c : Command} → parse (b ∷ w) ≡ ok (c, rest) → Found n (b ∷ w) (ok (some (c, n - length rest)))
  malformed : {b q : ℕ} {w : List ℕ} → parse (b ∷ w) ≡ refuse q → Found n (b ∷ w) (refuse q)

found : (n : ℕ) (w : List ℕ) → Found n w (next_of n w)
found n [] = end
found n (b ∷ w) = go (parse (b ∷ w)) refl
  where
    go : (r : Res (Command × List ℕ)) → parse (b ∷ w) ≡ r → Found n (b ∷ w) (placed n r)
    go (ok r) e = command e
    go (refuse q) e = malformed e

module _ (file : List ℕ) (at : ℕ) where
  found_at : {r : Res (Option (Command × ℕ))} → r ≡ next_at file at → Found (length file) (drop at file) r
  unfolding next_at
  found_at e = rw e (found (length file) (drop at file))

  pub passed : {c : Command} {k : ℕ} → ok (some (c, k)) ≡ next_at file at → Passed file at c k
  passed e = go refl (found_at e)
    where
      behind : {b : ℕ} {w rest : List ℕ} {c : Command} → drop at file ≡ b ∷ w → parse (b ∷ w) ≡ ok (c, rest) → Leaves w (ok (c, rest)) → Passed file at c (length file - length rest)
      behind {w = w} p e (leaves n fits) = record {
        parsed = rw (place, ← (drop-drop (suc n) at file), p) e;
        further = omega (arith, place);
        within = omega (arith, place, long, fits);
      }
        where
          long : length file - at ≡ suc (length w)
          long = sym (length-drop at file) ∙ ap length p

          place : length file - length (drop n w) ≡ at + suc n
          place = omega (arith, long, fits, length-drop n w)

      go : {w : List ℕ} {c : Command} {k : ℕ} → drop at file ≡ w → Found (length file) w (ok (some (c, k))) → Passed file at c k
      go p (command {b = b} {w = w} e) = behind p e (rw e at (parse-leaves b w))

  pub left-command : {c : Command} {k : ℕ} → ok (some (c, k)) ≡ next_at file at → parse_all (drop at file) ≡ (c ∷ (parse_all (drop k file)).0, (parse_all (drop k file)).1)
  left-command e = unroll (drop at file) (passed e).parsed

  pub left_end : ok none ≡ next_at file at → parse_all (drop at file) ≡ ([], [])
  unfolding parse_all parse_up_to
  left_end e = go (found_at e)
    where
      go : {w : List ℕ} → Found (length file) w (ok none) → parse_all w ≡ ([], [])
      go end = refl

  pub left-malformed : {q : ℕ} → refuse q ≡ next_at file at → parse_all (drop at file) ≡ ([], drop at file)
  left-malformed e = go (found_at e)
    where
      go : {w : List ℕ} {q : ℕ} → Found (length file) w (refuse q) → parse_all w ≡ ([], w)
      go (malformed {b = b} {w = w} e) = stop b w e

pub read_none : (file : List ℕ) → ReadTo file [] 0
read_none file = record { within = omega arith; whole = refl }

module _ {file : List ℕ} {cs : List Command} {at : ℕ} (r : ReadTo file cs at) where
  pub read_more : {c : Command} {k : ℕ} → ok (some (c, k)) ≡ next_at file at → ReadTo file (cs ++ c ∷ []) k
  read_more e = record { within = (passed file at e).within; whole = r.whole ∙ rw (left-command file at e, append_snoc) }

  pub read-end : ok none ≡ next_at file at → parse_all file ≡ (cs, [])
  read-end e = r.whole ∙ rw (left_end file at e, append-nil)

  pub read-malformed : {q : ℕ} → refuse q ≡ next_at file at → parse_all file ≡ (cs, drop at file)
  read-malformed e = r.whole ∙ rw (left-malformed file at e, append-nil)
