-- Nothing of a command's operands is lost by reading them: bytes that are read as one command are the same bytes.
use mathlib.Core.Path.{◌≡◌, refl, sym, ap, ◌∙◌}
use mathlib.Core.Bool.{Bool, true, false}
use mathlib.Core.List.{List, [], ◌∷◌}
use Prim.Native.Nat.{ℕ, zero, suc, ◌+◌, ◌<◌}
use native.Mathlib.Omega.{arith}
use lib.Dec.{eqb}
use lib.ListN.{length, get_or, take, drop, length-drop, drop_of_length-le}
use lib.Seq.{get_or-drop, drop-drop}
use borrow.Author.Tests.{eqb-true}
use Rattle.model.specs.Res.{ok}
use Rattle.model.specs.Heap.{Sizes}
use Rattle.model.specs.Command.{opcodes, operand_bytes, little_endian, field, command_of}
use Rattle.reader.proofs.Opcodes.{same_ok}

abbrev Bytes : List ℕ → Type 0
Bytes w = (i : ℕ) → get_or w i 0 < 256

-- k bytes that make one number, and the same behind them
joined_same : (k : ℕ) (u v : List ℕ) → Bytes u → Bytes v → length u ≡ length v → little_endian (take k u) ≡ little_endian (take k v) → drop k u ≡ drop k v → u ≡ v
unfolding little_endian
joined_same zero u v p q l e d = d
joined_same (suc k) [] [] p q l e d = refl
joined_same (suc k) [] (b ∷ v) p q l e d = absurd (omega arith)
joined_same (suc k) (a ∷ u) [] p q l e d = absurd (omega arith)
joined_same (suc k) (a ∷ u) (b ∷ v) p q l e d =
    let low : a ≡ b = omega (arith, p 0, q 0) in
    let high : little_endian (take k u) ≡ little_endian (take k v) = omega (arith, p 0, q 0) in
    let rest : u ≡ v = joined_same k u v (λ i. p (suc i)) (λ i. q (suc i)) (omega arith) high d in
    rw (low, rest)

module _ (w w' : List ℕ) (p : Bytes w) (q : Bytes w') {n : ℕ} (l : length w ≡ n) (l' : length w' ≡ n) where
  -- the field at a place, and the same behind it
  field-same : (at k : ℕ) → field w at k ≡ field w' at k → drop (at + k) w ≡ drop (at + k) w' → drop at w ≡ drop at w'
  unfolding field
  field-same at k e d =
      joined_same k (drop at w) (drop at w') (λ i. rw get_or-drop (p (at + i))) (λ i. rw get_or-drop (q (at + i))) (rw (length-drop at w, length-drop at w', l, l')) e
      (rw (drop-drop k at w, drop-drop k at w') d)

  end_same : drop n w ≡ drop n w'
  end_same = rw (drop_of_length-le w {i = n} (omega arith), drop_of_length-le w' {i = n} (omega arith))

-- a command's byte, and how many operand bytes it has
data Known : ℕ → ℕ → Type 0 where
  new : Known 0x4E 8
  alloc : Known 0x41 9
  set : Known 0x56 19
  load : Known 0x4C 10
  store : Known 0x53 10
  report : Known 0x52 0
  figure : Known 0x46 1

module _ {op n : ℕ} where
  found : (o : ℕ × ℕ) (os : List (ℕ × ℕ)) → operand_bytes (o ∷ os) op ≡ ok n → Known o.0 o.1 → (operand_bytes os op ≡ ok n → Known op n) → Known op n
  unfolding operand_bytes
  found o os e here there = go (eqb op o.0) refl e
    where
      go : (t : Bool) → eqb op o.0 ≡ t → elim t [ true ↦ ok o.1 | false ↦ operand_bytes os op ] ≡ ok n → Known op n
      go true h e = let at : op ≡ o.0 = eqb-true op o.0 h in rw (at, same_ok e) here
      go false h e = there e

  none : operand_bytes [] op ≡ ok n → Known op n
  unfolding operand_bytes
  none e = let z : ◌≡◌ {A = ℕ} 0 1 = cc in absurd (omega arith)

  known : operand_bytes opcodes op ≡ ok n → Known op n
  unfolding opcodes
  known e = found _ _ e new λ e. found _ _ e alloc λ e. found _ _ e set λ e. found _ _ e load λ e. found _ _ e store λ e. found _ _ e report λ e. found _ _ e figure none

abbrev sizes : List ℕ → Sizes
sizes w = record { n = field w 0 2; t = field w 2 2; s = field w 4 2; c = field w 6 2 }

module _ (w w' : List ℕ) (p : Bytes w) (q : Bytes w') where
  same : {op n : ℕ} → Known op n → length w ≡ n → length w' ≡ n → command_of op w ≡ command_of op w' → w ≡ w'
  unfolding command_of
  same new l l' e =
      let f = field-same w w' p q l l' in
      let z : sizes w ≡ sizes w' = cc in
      f 0 2 (ap (λ (z : Sizes). z.n) z) (f 2 2 (ap (λ (z : Sizes). z.t) z) (f 4 2 (ap (λ (z : Sizes). z.s) z) (f 6 2 (ap (λ (z : Sizes). z.c) z) (end_same w w' p q l l'))))
  same alloc l l' e = let f = field-same w w' p q l l' in f 0 1 (cc) (f 1 8 (cc) (end_same w w' p q l l'))
  same set l l' e = let f = field-same w w' p q l l' in f 0 1 (cc) (f 1 2 (cc) (f 3 8 (cc) (f 11 8 (cc) (end_same w w' p q l l'))))
  same load l l' e = let f = field-same w w' p q l l' in f 0 1 (cc) (f 1 1 (cc) (f 2 8 (cc) (end_same w w' p q l l')))
  same store l l' e = let f = field-same w w' p q l l' in f 0 1 (cc) (f 1 1 (cc) (f 2 8 (cc) (end_same w w' p q l l')))
  same report l l' e = end_same w w' p q l l'
  same figure l l' e = let f = field-same w w' p q l l' in f 0 1 (cc) (end_same w w' p q l l')

  pub operands_same : (op : ℕ) → operand_bytes opcodes op ≡ ok (length w) → operand_bytes opcodes op ≡ ok (length w') → command_of op w ≡ command_of op w' → w ≡ w'
  operands_same op k k' e = same (known k) refl (same_ok (sym k ∙ k')) e
