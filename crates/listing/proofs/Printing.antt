-- A run that is at the file's end has printed the listing, and nothing else.
use mathlib.Core.Path.{◌≡◌, sym, ap, ◌∙◌}
use mathlib.Core.List.{List, [], ◌++◌, append-nil, append_assoc}
use Prim.Native.Nat.{ℕ}
use lib.ListN.{length, take}
use Rattle.model.specs.Listing.{listing}
use Rattle.command.specs.State.{state_in}
use Rattle.listing.specs.declared.Run.{Run}
use Rattle.listing.specs.Left.{left_of, Printed, nothing, more}
use Rattle.listing.proofs.Advancing.{left-none}

pub printed-first : {file buffer printed : List ℕ} {r : Run} → Printed file buffer r printed → printed ++ left_of file buffer r ≡ listing file
printed-first (nothing e) = e
printed-first {file} (more {buffer' = b} {out = out} {printed = p} {r' = r} {used = used} before f) =
    append_assoc p (take used out) (left_of file b r) ∙ ap (λ (l : List ℕ). p ++ l) f.listed ∙ printed-first before

pub nothing_left : (file buffer : List ℕ) (r : Run) → r.at ≡ length file → left_of file buffer r ≡ []
unfolding left_of
nothing_left file buffer r e = rw e (left-none file r.number (state_in buffer r.state))

pub printed-all : {file buffer printed : List ℕ} {r : Run} → Printed file buffer r printed → r.at ≡ length file → printed ≡ listing file
printed-all {file} {buffer} {printed} {r} p e = sym (append-nil printed) ∙ ap (λ (l : List ℕ). printed ++ l) (sym (nothing_left file buffer r e)) ∙ printed-first p
