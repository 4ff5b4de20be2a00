-- One command and its line: what was left of the listing is that line, before what is left now.
use mathlib.Core.Path.{◌≡◌}
use mathlib.Core.List.{List, [], ◌∷◌, ◌++◌, append-nil}
use mathlib.Core.Option.{some}
use Prim.Native.Nat.{ℕ, ◌+◌, ◌<◌}
use native.Mathlib.Numerals.{add-one}
use native.Mathlib.Omega.{arith}
use lib.ListN.{length, drop}
use lib.Seq.{drop-cons}
use Rattle.model.specs.Lists.{flat}
use Rattle.model.specs.Res.{ok, refuse}
use Rattle.model.specs.Command.{Command}
use Rattle.model.specs.Run.{State as ModelState, Line, no_line, step, stepped}
use Rattle.model.specs.Listing.{line, lines_from}
use Rattle.std.specs.Prelude.{Result, Err}
use Rattle.question.specs.declared.Question.{Question}
use Rattle.question.specs.declared.Question.TheVariants.{Command as Malformed}
use Rattle.command.specs.declared.answers.Answer.{Answer}
use Rattle.command.specs.declared.State.{State}
use Rattle.command.specs.State.{state_in}
use Rattle.command.specs.Steps.{Performs}
use Rattle.listing.specs.declared.Run.{Run}
use Rattle.listing.specs.Left.{stands_at, commands_from, listing_from, left_of, Going, Answers}
use Rattle.listing.proofs.Standing.{commands-none, stood}

-- What is left

next-lines : (n : ℕ) (s : ModelState) (c : Command) (cs : List Command) (w : List ℕ) {l : Line} {s' : ModelState} → stepped s (step c s) ≡ (l, s') → line n l ++ flat (lines_from (n + 1) s' cs w) ≡ flat (lines_from n s (c ∷ cs) w)
unfolding flat lines_from
next-lines n s c cs w e = rw (e, add-one)

left-malformed : (file : List ℕ) (at n : ℕ) (s : ModelState) → at < length file → commands_from file at ≡ ([], drop at file) → listing_from file at n s ≡ line n (no_line 12)
unfolding listing_from flat lines_from
left-malformed file at n s h e = rw (e, drop-cons file at 0 h) (append-nil (line n (no_line 12)))

-- at the end nothing
pub left-none : (file : List ℕ) (n : ℕ) (s : ModelState) → listing_from file (length file) n s ≡ []
unfolding listing_from flat lines_from
left-none file n s = rw (commands-none file)

-- A step, by what stands there

module _ {file buffer : List ℕ} {r : Run} (g : Going file buffer r) (h : r.at < length file) where
  pub step-command : {c : Command} {k : ℕ} {a : Result Answer Question} {s : State} {buffer' : List ℕ} → ok (some (c, k)) ≡ stands_at file r.at → Performs c buffer r.state a buffer' s → Answers file buffer r a buffer' (record { at = k; number = r.number + 1; state = s })
  unfolding left_of listing_from
  step-command {c = c} {k = k} e p =
      let t = stood file r.at h e in
      record {
        listed = rw t.1 (next-lines r.number (state_in buffer r.state) c (commands_from file k).0 (commands_from file k).1 p.stepping);
        further = t.0.further;
        going = record { within = t.0.within; counted = omega (arith, g.counted, t.0.further); ready = p.ready };
      }

  pub step-malformed : {q : ℕ} → refuse q ≡ stands_at file r.at → Answers file buffer r (Err Malformed) buffer (record { at = length file; number = r.number + 1; state = r.state })
  unfolding left_of
  step-malformed e = record {
    listed = rw (left-none file (r.number + 1) (state_in buffer r.state), left-malformed file r.at r.number (state_in buffer r.state) h (stood file r.at h e)) (append-nil (line r.number (no_line 12)));
    further = h;
    going = record { within = omega arith; counted = omega (arith, g.counted, h); ready = g.ready };
  }
