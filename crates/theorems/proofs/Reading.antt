-- A command file is read to its end or its first malformed command.
use mathlib.Core.Path.{◌≡◌, refl, sym, ap, ◌∙◌}
use mathlib.Core.Bool.{Bool, true, false}
use mathlib.Core.Logic.{⊎_elim}
use mathlib.Core.List.Memᴰ
use mathlib.Core.List.{List, [], ◌∷◌, ◌++◌, Memᴰ}
use Prim.Native.Nat.{ℕ, zero, suc, ◌+◌, ◌≤◌, ◌<◌}
use native.Mathlib.Nat.{le_refl, not-suc-le-zero, zero-add, add-zero, add-suc, suc-add}
use native.Mathlib.Omega.{arith}
use lib.Dec.{eqb, leb}
use lib.ListN.{length, take, length-append, take-append-drop}
use borrow.Author.Tests.{le-leb, lt-leb}
use Rattle.model.specs.Lists.{flat, all_at_most}
use Rattle.model.specs.Res.{Res, ok, refuse, ◌>>=◌, ask}
use Rattle.model.specs.Command.{Command, opcodes, operand_bytes, command_of, registers_of, parse, parse_up_to, parse_all}
use Rattle.model.specs.Run.{State, started, no_line, step, stepped}
use Rattle.model.specs.Listing.{digits, decimal, spaced, no_word, line_text, line, lines_from, longest_file, lines, listing}
use Rattle.theorems.specs.Reading.{Parsed, end, malformed, command, IsLine, last_line, ReadThrough}
use Rattle.theorems.proofs.Texts.{line-is}

-- What a parse comes to: a command with registers below 16 and the bytes after it, or question 12

record Whole (w : List ℕ) (c : Command) (rest : List ℕ) : Type 0 where
  op : ℕ
  operands : List ℕ
  shape : w ≡ op ∷ operands ++ rest
  registers : all_at_most 15 (registers_of c) ≡ true

data Outcome (w : List ℕ) : Res (Command × List ℕ) → Type 0 where
  whole : {c : Command} {rest : List ℕ} → Whole w c rest → Outcome w (ok (c, rest))
  refused : Outcome w (refuse 12)

module _ {w : List ℕ} where
  asked-12 : (b : Bool) (f : Unit {0} → Res (Command × List ℕ)) → (b ≡ true → Outcome w (f tt)) → Outcome w (ask 12 b >>= f)
  asked-12 true f g = g refl
  asked-12 false f g = refused

  known : (os : List (ℕ × ℕ)) (op : ℕ) (f : ℕ → Res (Command × List ℕ)) → ((k : ℕ) → Outcome w (f k)) → Outcome w (operand_bytes os op >>= f)
  unfolding operand_bytes
  known [] op f g = refused
  known (o ∷ os) op f g = go (eqb op o.0) (known os op f g)
    where
      go : (b : Bool) → Outcome w (operand_bytes os op >>= f) → Outcome w (elim b [ true ↦ ok o.1 | false ↦ operand_bytes os op ] >>= f)
      go true h = g o.1
      go false h = h

outcome : (w : List ℕ) → Outcome w (parse w)
unfolding parse
outcome [] = refused
outcome (op ∷ w) =
    known opcodes op _ λ k.
    asked-12 (leb k (length w)) _ λ _.
    asked-12 (all_at_most 15 (registers_of (command_of op (take k w)))) _ λ h.
    whole (record { op = op; operands = take k w; shape = rw take-append-drop; registers = h })

whole_of : (w : List ℕ) {c : Command} {rest : List ℕ} → parse w ≡ ok (c, rest) → Whole w c rest
whole_of w e = go (rw e at (outcome w))
  where
    go : {c : Command} {rest : List ℕ} → Outcome w (ok (c, rest)) → Whole w c rest
    go (whole r) = r

pub registers-below : (w : List ℕ) {c : Command} {rest : List ℕ} → parse w ≡ ok (c, rest) → all_at_most 15 (registers_of c) ≡ true
registers-below w e = (whole_of w e).registers

pub only-12 : (w : List ℕ) {q : ℕ} → parse w ≡ refuse q → q ≡ 12
only-12 w e = go (rw e at (outcome w))
  where
    go : {q : ℕ} → Outcome w (refuse q) → q ≡ 12
    go refused = refl

-- Fuel beyond the length does not matter: each command takes a byte at least

shorter : (w : List ℕ) {c : Command} {rest : List ℕ} {k : ℕ} → parse w ≡ ok (c, rest) → length w ≤ suc k → length rest ≤ k
shorter w {rest = rest} e h = let p = whole_of w e in omega (arith, ap length p.shape, length-append p.operands rest)

one_more : (k b : ℕ) (w : List ℕ) {c : Command} {rest : List ℕ} → parse (b ∷ w) ≡ ok (c, rest) → parse_up_to (suc k) (b ∷ w) ≡ (c ∷ (parse_up_to k rest).0, (parse_up_to k rest).1)
unfolding parse_up_to
one_more k b w e = rw (e, parse_up_to)

no_more : (k b : ℕ) (w : List ℕ) {q : ℕ} → parse (b ∷ w) ≡ refuse q → parse_up_to (suc k) (b ∷ w) ≡ ([], b ∷ w)
unfolding parse_up_to
no_more k b w e = rw (e, parse_up_to)

same-fuel : (k j : ℕ) (w : List ℕ) → length w ≤ k → length w ≤ j → parse_up_to k w ≡ parse_up_to j w
unfolding parse_up_to
same-fuel zero zero w h i = refl
same-fuel zero (suc j) [] h i = refl
same-fuel zero (suc j) (b ∷ w) h i = absurd (not-suc-le-zero h)
same-fuel (suc k) zero [] h i = refl
same-fuel (suc k) zero (b ∷ w) h i = absurd (not-suc-le-zero i)
same-fuel (suc k) (suc j) [] h i = refl
same-fuel (suc k) (suc j) (b ∷ w) h i = go (parse (b ∷ w)) refl (λ v. same-fuel k j v)
  where
    go : (r : Res (Command × List ℕ)) → parse (b ∷ w) ≡ r → ((v : List ℕ) → length v ≤ k → length v ≤ j → parse_up_to k v ≡ parse_up_to j v) → parse_up_to (suc k) (b ∷ w) ≡ parse_up_to (suc j) (b ∷ w)
    go (ok r) e f = rw (one_more k b w e, one_more j b w e, f r.1 (shorter (b ∷ w) e h) (shorter (b ∷ w) e i))
    go (refuse q) e f = no_more k b w e ∙ sym (no_more j b w e)

pub fuel : (k : ℕ) (w : List ℕ) → length w ≤ k → parse_up_to k w ≡ parse_all w
unfolding parse_all
fuel k w h = same-fuel k (length w) w h (le_refl (length w))

pub unroll : (w : List ℕ) {c : Command} {rest : List ℕ} → parse w ≡ ok (c, rest) → parse_all w ≡ (c ∷ (parse_all rest).0, (parse_all rest).1)
unfolding parse_all parse
unroll [] e = cc
unroll (b ∷ w) {rest = rest} e = one_more (length w) b w e ∙ rw (fuel (length w) rest (shorter (b ∷ w) e (le_refl (suc (length w)))))

pub stop : (b : ℕ) (w : List ℕ) {q : ℕ} → parse (b ∷ w) ≡ refuse q → parse_all (b ∷ w) ≡ ([], b ∷ w)
unfolding parse_all
stop b w e = no_more (length w) b w e

-- Commands read are those that follow one another in the bytes, and no others

parsed : (k : ℕ) (w : List ℕ) → length w ≤ k → Parsed w (parse_up_to k w).0 (parse_up_to k w).1
unfolding parse_up_to
parsed zero [] h = end
parsed zero (b ∷ w) h = absurd (not-suc-le-zero h)
parsed (suc k) [] h = end
parsed (suc k) (b ∷ w) h = go (parse (b ∷ w)) refl (λ v. parsed k v)
  where
    go : (r : Res (Command × List ℕ)) → parse (b ∷ w) ≡ r → ((v : List ℕ) → length v ≤ k → Parsed v (parse_up_to k v).0 (parse_up_to k v).1) → Parsed (b ∷ w) (parse_up_to (suc k) (b ∷ w)).0 (parse_up_to (suc k) (b ∷ w)).1
    go (ok r) e f = let p = whole_of (b ∷ w) e in rw (one_more k b w e) (command p.operands e p.shape (f r.1 (shorter (b ∷ w) e h)))
    go (refuse q) e f = rw (no_more k b w e) (malformed (rw (only-12 (b ∷ w) e) at e))

pub parsed-once : {w left : List ℕ} {cs : List Command} → Parsed w cs left → parse_all w ≡ (cs, left)
unfolding parse_all parse_up_to
parsed-once end = refl
parsed-once (malformed {b = b} {w = w} e) = stop b w e
parsed-once (command {w = w} operands e s p) = rw (unroll w e, parsed-once p)

-- Lines: one for each command, then one if bytes are left

each_line : (n : ℕ) (s : State) (cs : List Command) → length (lines_from n s cs []) ≡ length cs
unfolding lines_from
each_line n s [] = refl
each_line n s (c ∷ cs) = ap suc (each_line (suc n) (stepped s (step c s)).1 cs)

last_line_lem : (n : ℕ) (s : State) (cs : List Command) (left : List ℕ) → lines_from (suc n) s cs left ≡ lines_from (suc n) s cs [] ++ last_line (n + length cs) left
unfolding lines_from
last_line_lem n s [] [] = refl
last_line_lem n s [] (b ∷ w) = rw (add-zero n)
last_line_lem n s (c ∷ cs) left = rw (last_line_lem (suc n) (stepped s (step c s)).1 cs left, suc-add, add-suc)

lined : (n : ℕ) (s : State) (cs : List Command) (left : List ℕ) (l : List ℕ) → Memᴰ l (lines_from n s cs left) → IsLine l
unfolding lines_from
lined n s [] [] l m = absurd (Memᴰ.not-nil m)
lined n s [] (b ∷ w) l m = rw (Memᴰ.eq_of_singleton m) (line-is n (no_line 12))
lined n s (c ∷ cs) left l m = ⊎_elim (λ e. rw e (line-is n (stepped s (step c s)).0)) (lined (suc n) (stepped s (step c s)).1 cs left l) (Memᴰ.cases_cons m)

pub within : (file : List ℕ) → length file ≤ longest_file → lines file ≡ lines_from 1 started (parse_all file).0 (parse_all file).1
unfolding lines
within file h = rw (le-leb (length file) longest_file h, lines)

pub reads-through : (file : List ℕ) → length file ≤ longest_file → ReadThrough file
unfolding listing parse_all
reads-through file h = record {
  commands = cs;
  left = left;
  parsed = parsed (length file) file (le_refl (length file));
  answers = lines_from 1 started cs [];
  one_each = each_line 1 started cs;
  all_lines = within file h ∙ last_line_lem 0 started cs left ∙ rw zero-add;
  each_is = rw (within file h) (lined 1 started cs left);
  bytes = refl;
}
  where
    cs : List Command
    cs = (parse_all file).0

    left : List ℕ
    left = (parse_all file).1

-- `1 no 12` and LF
pub too_long_lem : (file : List ℕ) → longest_file < length file → listing file ≡ 0x31 ∷ 0x20 ∷ 0x6E ∷ 0x6F ∷ 0x20 ∷ 0x31 ∷ 0x32 ∷ 0x0A ∷ []
unfolding listing lines flat line line_text decimal digits no_word spaced
too_long_lem file h = rw (lt-leb (length file) longest_file h, lines)

pub empty : listing [] ≡ []
unfolding listing lines longest_file flat parse_all parse_up_to lines_from
empty = refl
