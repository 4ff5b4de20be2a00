-- Command file: commands read from bytes.
use Rattle.std.specs.Prelude.{true, false, cond, List, [], ◌∷◌, ℕ, zero, suc, ◌+◌, ◌*◌, leb, eqb, length, take, drop}
use Rattle.model.specs.Lists.{all_at_most}
use Rattle.model.specs.Res.{Res, ok, refuse, ◌>>=◌, ask}
use Rattle.model.specs.Heap.{Sizes}

-- Commands, with their operands: register and amount; register and the value's three words; register, pointer register and
-- added offset; register
pub data Command : Type 0 where
  new : Sizes → Command
  alloc : ℕ → ℕ → Command
  set : ℕ → ℕ → ℕ → ℕ → Command
  load : ℕ → ℕ → ℕ → Command
  store : ℕ → ℕ → ℕ → Command
  report : Command
  figure : ℕ → Command

-- each command's byte, and how many bytes its operands have
unfoldable pub opcodes : List (ℕ × ℕ)
opcodes = (0x4E, 8) ∷ (0x41, 9) ∷ (0x56, 19) ∷ (0x4C, 10) ∷ (0x53, 10) ∷ (0x52, 0) ∷ (0x46, 1) ∷ []

unfoldable pub operand_bytes : List (ℕ × ℕ) → ℕ → Res ℕ
operand_bytes [] op = refuse 12
operand_bytes (o ∷ os) op = elim (eqb op o.0) [ true ↦ ok o.1 | false ↦ operand_bytes os op ]

unfoldable pub little_endian : List ℕ → ℕ
little_endian [] = 0
little_endian (b ∷ bs) = b + 256 * little_endian bs

-- k bytes from a place on
unfoldable pub field : List ℕ → ℕ → ℕ → ℕ
field w at k = little_endian (take k (drop at w))

-- `parse` asks operand_bytes first, so any other byte than these is never looked at
unfoldable pub command_of : ℕ → List ℕ → Command
command_of op w =
    cond (eqb op 0x4E) (new (record { n = field w 0 2; t = field w 2 2; s = field w 4 2; c = field w 6 2 }))
    (cond (eqb op 0x41) (alloc (field w 0 1) (field w 1 8))
    (cond (eqb op 0x56) (set (field w 0 1) (field w 1 2) (field w 3 8) (field w 11 8))
    (cond (eqb op 0x4C) (load (field w 0 1) (field w 1 1) (field w 2 8))
    (cond (eqb op 0x53) (store (field w 0 1) (field w 1 1) (field w 2 8))
    (cond (eqb op 0x52) report
    (figure (field w 0 1)))))))

unfoldable pub registers_of : Command → List ℕ
registers_of (new z) = []
registers_of (alloc r a) = r ∷ []
registers_of (set r a b o) = r ∷ []
registers_of (load r p d) = r ∷ p ∷ []
registers_of (store r p d) = r ∷ p ∷ []
registers_of report = []
registers_of (figure r) = r ∷ []

-- 12. Is the command known and whole, its registers below 16? The command, and the bytes after it.
unfoldable pub parse : List ℕ → Res (Command × List ℕ)
parse [] = refuse 12
parse (op ∷ w) =
    operand_bytes opcodes op >>= λ k.
    ask 12 (leb k (length w)) >>= λ _.
    let c = command_of op (take k w) in
    ask 12 (all_at_most 15 (registers_of c)) >>= λ _.
    ok (c, drop k w)

-- all commands up to the end or the first malformed one, and the bytes that are left
unfoldable pub parse_up_to : ℕ → List ℕ → List Command × List ℕ
parse_up_to zero w = ([], w)
parse_up_to (suc k) [] = ([], [])
parse_up_to (suc k) (b ∷ w) = elim (parse (b ∷ w)) [ refuse q ↦ ([], b ∷ w) | ok r ↦ let l = parse_up_to k r.1 in (r.0 ∷ l.0, l.1) ]

unfoldable pub parse_all : List ℕ → List Command × List ℕ
parse_all w = parse_up_to (length w) w
