-- What stands at a place of a file, and the commands from there on.
use mathlib.Core.Path.{◌≡◌, refl, ◌∙◌}
use mathlib.Core.Bool.{Bool, true, false}
use mathlib.Core.List.{List, [], ◌∷◌}
use mathlib.Core.Option.{Option, none, some}
use Prim.Native.Nat.{ℕ, suc, ◌≤◌, ◌<◌}
use native.Mathlib.Omega.{arith}
use lib.Dec.{leb}
use lib.ListN.{length, get_or, drop, drop_of_length-le}
use lib.Seq.{drop-length, drop-cons}
use borrow.Author.Tests.{le-leb, lt-leb}
use Rattle.model.specs.Res.{Res, ok, refuse}
use Rattle.model.specs.Command.{Command, parse, parse_up_to, parse_all}
use Rattle.model.specs.Listing.{longest_file}
use Rattle.std.proofs.Common.{Option as CodeOption, Some, None, unwrap_or, Result, Err}
use Rattle.question.specs.declared.Question.{Question}
use Rattle.question.specs.declared.Question.TheVariants.{Command as Malformed}
use Rattle.reader.specs.declared.Command.{Command as Given}
use Rattle.reader.specs.Answer.{next_answer, placed, next_at}
use Rattle.reader.specs.Progress.{Passed}
use Rattle.reader.proofs.Progress.{passed, left-command, left-malformed}
use Rattle.listing.specs.Left.{too_long, by_length, stands_at, commands_from}

-- By the file's length

module _ (file : List ℕ) (at : ℕ) where
  pub stands-short : length file ≤ longest_file → stands_at file at ≡ next_at file at
  unfolding stands_at
  stands-short h = rw (le-leb (length file) longest_file h)

  pub stands-long : longest_file < length file → at < length file → refuse 12 ≡ stands_at file at
  unfolding stands_at
  stands-long h i = rw (lt-leb (length file) longest_file h, drop-cons file at 0 i)

  pub stands-end : longest_file < length file → length file ≤ at → ok none ≡ stands_at file at
  unfolding stands_at
  stands-end h i = rw (lt-leb (length file) longest_file h, drop_of_length-le file i)

  commands-short : leb (length file) longest_file ≡ true → commands_from file at ≡ parse_all (drop at file)
  unfolding commands_from
  commands-short p = rw p

  commands-long : leb (length file) longest_file ≡ false → commands_from file at ≡ ([], drop at file)
  unfolding commands_from
  commands-long p = rw p

-- no commands at the end
pub commands-none : (file : List ℕ) → commands_from file (length file) ≡ ([], [])
unfolding commands_from parse_all parse_up_to
commands-none file = rw (drop-length file) (go (leb (length file) longest_file))
  where
    go : (b : Bool) → by_length b (parse_all []) ([], []) ≡ ([], [])
    go true = refl
    go false = refl

-- What a byte at a place begins: a command, or what is refused

abbrev pub Stands : List ℕ → ℕ → Res (Option (Command × ℕ)) → Type 0
Stands file at (ok none) = ⊥
Stands file at (ok (some (c, k))) = Passed file at c k × (commands_from file at ≡ (c ∷ (commands_from file k).0, (commands_from file k).1))
Stands file at (refuse q) = commands_from file at ≡ ([], drop at file)

placed-some : (n : ℕ) (r : Res (Command × List ℕ)) → ok none ≡ placed n r → ⊥
placed-some n (ok r) e = let z : ◌≡◌ {A = ℕ} 0 1 = cc in omega arith
placed-some n (refuse q) e = let z : ◌≡◌ {A = ℕ} 0 1 = cc in omega arith

module _ (file : List ℕ) (at : ℕ) (h : at < length file) where
  no_end : ok none ≡ next_at file at → ⊥
  unfolding next_at
  no_end e = placed-some (length file) (parse (get_or file at 0 ∷ drop (suc at) file)) (rw (drop-cons file at 0 h) at e)

  short : leb (length file) longest_file ≡ true → (x : Res (Option (Command × ℕ))) → x ≡ next_at file at → Stands file at x
  short p (ok none) e = no_end e
  short p (ok (some (c, k))) e = (passed file at e, rw (commands-short file at p, commands-short file k p) (left-command file at e))
  short p (refuse q) e = commands-short file at p ∙ left-malformed file at e

  stands : Stands file at (stands_at file at)
  unfolding stands_at
  stands = go (leb (length file) longest_file) refl
    where
      go : (b : Bool) → leb (length file) longest_file ≡ b → Stands file at (by_length b (next_at file at) (too_long (drop at file)))
      go true p = short p (next_at file at) refl
      go false p = rw (drop-cons file at 0 h) (commands-long file at p)

  pub stood : {x : Res (Option (Command × ℕ))} → x ≡ stands_at file at → Stands file at x
  stood e = rw e stands

  pub never_none : (x : CodeOption (Result (Given × ℕ) Question)) → next_answer x ≡ stands_at file at → next_answer (Some (unwrap_or x (Err Malformed))) ≡ stands_at file at
  never_none (Some x) e = e
  never_none None e = absurd (stood e)

pub ruleset lengths = (stands-short, stands-long, stands-end)
