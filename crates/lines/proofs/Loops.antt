-- A word's bytes, and numbers each after a space.
use mathlib.Core.Path.{◌≡◌, refl, sym}
use mathlib.Core.List.{List, [], ◌∷◌, ◌++◌, append_assoc}
use Prim.Native.Nat.{ℕ, ◌+◌, ◌-◌, ◌*◌, ◌≤◌, ◌<◌}
use native.Mathlib.Numerals.{add-one}
use native.Mathlib.Omega.{arith}
use lib.ListN.{length, get_or, take, drop, length-append}
use lib.Seq.{drop-drop, take-suc}
use Rattle.model.specs.Listing.{decimal, spaced}
use Rattle.figure.specs.Written.{written, Wrote, Room, Writes}
use Rattle.figure.specs.declared.text.Text.{Text}
use Rattle.figure.proofs.Digits.{decimal-length}
use Rattle.figure.proofs.Writes.{wrote_none, writes, writes-both}
use Rattle.lines.specs.Longest.{longest_spaced}

-- ---- `word`: its bytes replace a part

pub wrote-part : (w out : List ℕ) (at : ℕ) → at + length w ≤ length out → Wrote w out at (take at out ++ (w ++ drop (at + length w - at) (drop at out))) (at + length w)
unfolding written
wrote-part w out at h =
    let e : at + length w - at ≡ length w = omega arith in
    record { room = h; bytes = rw (e, drop-drop (length w) at out) (sym (append_assoc (take at out) w (drop (at + length w) out))); behind = refl }

-- ---- `each_spaced`: i numbers are written

spaced-both : (a b : List ℕ) → spaced (a ++ b) ≡ spaced a ++ spaced b
unfolding spaced
spaced-both [] b = refl
spaced-both (x ∷ a) b = rw (spaced-both a b) (sym (append_assoc (0x20 ∷ decimal x) (spaced a) (spaced b)))

pub spaced-length : (n : List ℕ) → length (spaced n) ≤ longest_spaced * length n
unfolding spaced
spaced-length [] = omega arith
spaced-length (x ∷ n) = omega (arith, length-append (decimal x) (spaced n), decimal-length x, spaced-length n)

pub record Spacing (n : List ℕ) (a t : Text) (i : ℕ) : Type 0 where
  pub within : i ≤ length n
  pub short : t.at ≤ a.at + longest_spaced * i
  pub done : Writes (spaced (take i n)) a t

pub space-begin : (n : List ℕ) (t : Text) → Room (longest_spaced * length n) t → Spacing n t t 0
unfolding spaced
space-begin n t h = record { within = omega arith; short = omega arith; done = writes (wrote_none t.out.now t.at (omega arith)) refl }

module _ {n : List ℕ} {a t : Text} {i : ℕ} (v : Spacing n a t i) where
  pub space-again : {u : Text} → i < length n → Writes (spaced (get_or n i 0 ∷ [])) t u → Spacing n a u (i + 1)
  space-again l w = record {
    within = omega arith;
    short = omega (arith, v.short, w.wrote.behind, spaced-length (get_or n i 0 ∷ []));
    done = rw (add-one i, take-suc n i 0 l, spaced-both (take i n) (get_or n i 0 ∷ [])) (writes-both v.done w);
  }
