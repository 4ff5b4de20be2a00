-- Laws of `Wrote`: nothing, a byte, and two texts one behind the other.
use mathlib.Core.Path.{◌≡◌, refl, sym, ap, ◌∙◌}
use mathlib.Core.Bool.{Bool, true, false, cond}
use mathlib.Core.List.{List, [], ◌∷◌, ◌++◌, append_assoc}
use Prim.Native.Nat.{ℕ, suc, ◌+◌, ◌≤◌, ◌<◌}
use native.Mathlib.Nat.{add_assoc}
use native.Mathlib.Numerals.{add-one}
use native.Mathlib.Omega.{arith}
use lib.ListN.{length, take, drop, set, length-append, length-drop}
use Rattle.std.proofs.lemmas.List.{take-append-drop}
use lib.Seq.{paste-zero, append_snoc, set_split, take_at, drop_at, drop-drop, length-take-le}
use Rattle.figure.specs.Written.{written, Wrote, Writes}
use Rattle.figure.specs.declared.text.Text.{Text}

pub wrote_none : (b : List ℕ) (at : ℕ) → at ≤ length b → Wrote [] b at b at
unfolding written
wrote_none b at h = record { room = omega arith; bytes = paste-zero b at []; behind = omega arith }

pub wrote-byte : (b : List ℕ) (at x : ℕ) → at < length b → Wrote (x ∷ []) b at (set b at x) (at + 1)
unfolding written
wrote-byte b at x h = record {
  room = omega arith;
  bytes = set_split b at x h ∙ rw add-one (sym (append_snoc (take at b) x (drop (suc at) b)));
  behind = refl;
}

module _ (b : List ℕ) (at : ℕ) (s : List ℕ) (h : at + length s ≤ length b) where
  length_front : length (take at b ++ s) ≡ at + length s
  length_front = length-append (take at b) s ∙ ap (λ (k : ℕ). k + length s) (length-take-le at b (omega arith))

  length-written : length (written b at s) ≡ length b
  unfolding written
  length-written = omega (arith, length_front, length-append (take at b ++ s) (drop (at + length s) b), length-drop (at + length s) b)

  pub take-written : take (at + length s) (written b at s) ≡ take at b ++ s
  unfolding written
  take-written = take_at (take at b ++ s) (drop (at + length s) b) (at + length s) length_front

  drop-written : (k : ℕ) → drop (at + length s + k) (written b at s) ≡ drop (at + length s + k) b
  unfolding written
  drop-written k =
      sym (drop-drop k (at + length s) (written b at s))
      ∙ ap (drop k) (drop_at (take at b ++ s) (drop (at + length s) b) (at + length s) length_front)
      ∙ drop-drop k (at + length s) b

  written_twice : (t : List ℕ) → written (written b at s) (at + length s) t ≡ written b at (s ++ t)
  unfolding written
  written_twice t =
      rw (take-written, drop-written (length t), length-append s t, ← (add_assoc at (length s) (length t))) (simp append_assoc)

pub wrote-both : {s t b m a : List ℕ} {at e r : ℕ} → Wrote s b at m e → Wrote t m e a r → Wrote (s ++ t) b at a r
wrote-both {s} {t} {b} {m} {a} {at} {e} {r} v w = record {
  room = omega (arith, both, v.behind, w.room, ap length v.bytes, length-written b at s v.room);
  bytes = w.bytes ∙ rw (v.behind, v.bytes) (written_twice b at s v.room t);
  behind = omega (arith, both, v.behind, w.behind);
}
  where
    both : length (s ++ t) ≡ length s + length t
    both = length-append s t

-- ---- The same of a place in lent bytes

pub writes : {s : List ℕ} {a b : Text} → Wrote s a.out.now a.at b.out.now b.at → b.out.ghost_name ≡ a.out.ghost_name → Writes s a b
writes {s} {a} {b} w e = record { wrote = w; kept = ap length w.bytes ∙ length-written a.out.now a.at s w.room; same = e }

pub writes-both : {s t : List ℕ} {a b c : Text} → Writes s a b → Writes t b c → Writes (s ++ t) a c
writes-both v w = record { wrote = wrote-both v.wrote w.wrote; kept = w.kept ∙ v.kept; same = w.same ∙ v.same }

-- once the bytes are handed back
pub handed-back : {s g : List ℕ} {a b : Text} → Writes s a b → g ≡ b.out.now → Wrote s a.out.now a.at g b.at
handed-back w e = rw e w.wrote

pub sign-length : (b : Bool) (x : ℕ) → length (cond b (x ∷ []) []) ≤ 1
sign-length true x = omega arith
sign-length false x = omega arith

-- a text that was written so that it ends at a place
pub wrote-to : (s b a : List ℕ) (at w r : ℕ) → w ≡ length s → at + length s ≤ length b → r + length s ≡ at + w → take r a ≡ take r b → drop r a ≡ s ++ drop (at + w) b → Wrote s b at a (at + w)
unfolding written
wrote-to s b a at w r e h p f t =
    let z : r ≡ at = omega arith in
    record { room = h; bytes = sym (take-append-drop r a) ∙ rw (f, t, z, e) (sym (append_assoc (take at b) s _)); behind = rw e refl }
