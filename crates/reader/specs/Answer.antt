-- The answers in the model's words: document 01's number and values for each case.
use Rattle.std.specs.Prelude.{◌≡◌, List, [], ◌∷◌, ℕ, ◌-◌, length, drop, Option as CodeOption, Some, None, Result, Ok, Err, MatchResult}
use Rattle.std.proofs.Math.Option.{Option, none, some}
use Rattle.std.specs.Int.{w64}
use Rattle.std.proofs.Common.{of_z}
use Rattle.model.specs.Lists.{all_at_most}
use Rattle.model.specs.Res.{Res, ok, refuse, ◌>>=◌, ask}
use Rattle.model.specs.Command.{Command as ModelCommand, new, alloc, set, load, store, report, figure, opcodes, operand_bytes, registers_of, parse}
use Rattle.question.specs.declared.Question.{Question}
use Rattle.question.specs.Question.{number, answer}
use Rattle.reader.specs.declared.Command.{Command}
use Rattle.reader.specs.declared.Command.TheVariants.{New, Alloc, Set, Load, Store, Report, Figure}
use Rattle.reader.specs.declared.Opcode.{Opcode}
use Rattle.reader.specs.declared.Opcode.TheVariants as opcode
use Rattle.reader.specs.declared.Reader.{Reader}

-- amounts and added offsets are the words of an i64
abbrev pub model_command : Command → ModelCommand
model_command (New n t s c) = new (record { n = n; t = t; s = s; c = c })
model_command (Alloc r a) = alloc r.number (of_z w64 a)
model_command (Set r a b o) = set r.number a b o
model_command (Load a) = load a.register.number a.pointer.number (of_z w64 a.offset)
model_command (Store a) = store a.register.number a.pointer.number (of_z w64 a.offset)
model_command Report = report
model_command (Figure r) = figure r.number

-- a command is refused if one of its registers is none of the sixteen
abbrev pub with_registers : ModelCommand → Res ModelCommand
with_registers c = ask 12 (all_at_most 15 (registers_of c)) >>= λ _. ok c

-- the byte of each command in a file
abbrev pub byte_of : Opcode → ℕ
byte_of opcode.New = 0x4E
byte_of opcode.Alloc = 0x41
byte_of opcode.Set = 0x56
byte_of opcode.Load = 0x4C
byte_of opcode.Store = 0x53
byte_of opcode.Report = 0x52
byte_of opcode.Figure = 0x46

-- how many bytes its operands have
abbrev pub operand_count : Opcode → ℕ
operand_count opcode.New = 8
operand_count opcode.Alloc = 9
operand_count opcode.Set = 19
operand_count opcode.Load = 10
operand_count opcode.Store = 10
operand_count opcode.Report = 0
operand_count opcode.Figure = 1

-- a byte is read as the command whose it is; one that is none's is refused
abbrev pub Reads : ℕ → Result Opcode Question → Type 0
Reads b r = MatchResult r (λ o. b ≡ byte_of o) (λ q. refuse (number q) ≡ operand_bytes opcodes b)

-- a command and the place behind it, or none at the end
abbrev pub next_answer : CodeOption (Result (Command × ℕ) Question) → Res (Option (ModelCommand × ℕ))
next_answer (Some r) = answer (λ x. some (model_command x.0, x.1)) r
next_answer None = ok none

-- the same file, at another place
abbrev pub moved_to : Reader → ℕ → Reader
moved_to r k = record { file = r.file; at = k }

-- a parse's answer, with the place where its rest begins in a file of n bytes
abbrev pub placed : ℕ → Res (ModelCommand × List ℕ) → Res (Option (ModelCommand × ℕ))
placed n (ok r) = ok (some (r.0, n - length r.1))
placed n (refuse q) = refuse q

-- what the last bytes of a file of n begin with
abbrev pub next_of : ℕ → List ℕ → Res (Option (ModelCommand × ℕ))
next_of n [] = ok none
next_of n (b ∷ w) = placed n (parse (b ∷ w))

-- what stands at a place: none at the end and beyond
unfoldable pub next_at : List ℕ → ℕ → Res (Option (ModelCommand × ℕ))
next_at file at = next_of (length file) (drop at file)

-- a reader says what stands at its place; behind a command it stands where the next begins, else where it was
abbrev pub Passes : Reader → CodeOption (Result Command Question) → Reader → Type 0
Passes r (Some (Ok c)) s = (ok (some (model_command c, s.at)) ≡ next_at r.file.now r.at) × (s ≡ moved_to r s.at)
Passes r (Some (Err q)) s = (refuse (number q) ≡ next_at r.file.now r.at) × (s ≡ r)
Passes r None s = (ok none ≡ next_at r.file.now r.at) × (s ≡ r)
