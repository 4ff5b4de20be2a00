-- Bytes that are no command's, and the last of those that are.
use mathlib.Core.Path.{◌≡◌, refl, ◌∙◌}
use mathlib.Core.List.{List, [], ◌∷◌}
use Prim.Native.Nat.{ℕ}
use borrow.Author.Tests.{ne_eqb}
use Rattle.model.specs.Res.{ok, refuse}
use Rattle.model.specs.Command.{opcodes, operand_bytes}
use Rattle.reader.specs.Answer.{byte_of, operand_count}
use Rattle.reader.specs.declared.Opcode.{Opcode}
use Rattle.reader.specs.declared.Opcode.TheVariants.{New, Alloc, Set, Load, Store, Report, Figure}

pub same_ok : {m n : ℕ} → ok m ≡ ok n → n ≡ m
same_ok e = cc

module _ (op : ℕ) where
  another : (o : ℕ × ℕ) (os : List (ℕ × ℕ)) → (op ≡ o.0 → ⊥) → operand_bytes (o ∷ os) op ≡ operand_bytes os op
  unfolding operand_bytes
  another o os h = rw (ne_eqb op o.0 h, operand_bytes)

  none_left : operand_bytes [] op ≡ refuse 12
  unfolding operand_bytes
  none_left = refl

module _ (op : ℕ) (a : op ≡ 0x4E → ⊥) (b : op ≡ 0x41 → ⊥) (c : op ≡ 0x56 → ⊥) (d : op ≡ 0x4C → ⊥) (e : op ≡ 0x53 → ⊥) (f : op ≡ 0x52 → ⊥) where
  pub unknown : (op ≡ 0x46 → ⊥) → operand_bytes opcodes op ≡ refuse 12
  unfolding opcodes
  unknown g =
      another op _ _ a ∙ another op _ _ b ∙ another op _ _ c ∙ another op _ _ d ∙ another op _ _ e ∙ another op _ _ f ∙ another op _ _ g ∙ none_left op

-- a byte that is read has that command's operand bytes
pub known_count : {b k : ℕ} (o : Opcode) → b ≡ byte_of o → k ≡ operand_count o → ok k ≡ operand_bytes opcodes b
unfolding opcodes operand_bytes
known_count o e f = rw (e, f) (go o)
  where
    go : (o : Opcode) → ok (operand_count o) ≡ operand_bytes opcodes (byte_of o)
    go New = refl
    go Alloc = refl
    go Set = refl
    go Load = refl
    go Store = refl
    go Report = refl
    go Figure = refl
