-- Demand 3 for command files: the heap calls of a run, from its `new` to its first report.
use Rattle.std.specs.Prelude.{◌≡◌, true, ◌⊎◌, ℕ, suc, ◌+◌, length, set as put}
use mathlib.Core.List.{List, [], ◌∷◌, ◌++◌, Memᴰ}
use Rattle.std.proofs.Math.Option.{Option, none, some}
use Rattle.model.specs.Res.{Res, ok, refuse, ◌>>=◌}
use Rattle.model.specs.Records.{Ptr, Cell, ref, cell_words, all_valid}
use Rattle.model.specs.Heap.{Sizes, fresh}
use Rattle.model.specs.Image.{encode, decode}
use Rattle.model.specs.Calls.{cells_in, Outcome, Call, allocs, reads, writes, call}
use Rattle.model.specs.Command.{Command, new, alloc, set, load, store, report, figure, parse_all}
use Rattle.model.specs.Run.{State, started, holding, register, Line, new_line, alloc_line, load_line, store_line, no_line, program_bounds, the_heap, pointer_in, added, step, stepped}
use Rattle.model.specs.Listing.{line, lines_from, lines}
use Rattle.model.specs.Demand.{History, Demand}
use Rattle.theorems.specs.Program.{program_scratch}
use Rattle.theorems.specs.Doors.{AllFormed}

-- The call that a command makes: an alloc with the registers as roots and the program's scratch, a read, a write. The other
-- commands make none, and one that is refused before its call makes none.

abbrev pub call_if : Res Call → Option Call
call_if (ok k) = some k
call_if (refuse q) = none

unfoldable pub call_of : Command → State → Option Call
call_of (new z) s = none
call_of (alloc r a) s = call_if (the_heap s >>= λ _. ok (allocs (cell_words s.registers) program_scratch a))
call_of (set r a b o) s = none
call_of (load r p d) s = call_if (the_heap s >>= λ _. pointer_in (register s p) >>= λ x. added x d >>= λ y. ok (reads y))
call_of (store r p d) s = call_if (the_heap s >>= λ _. pointer_in (register s p) >>= λ x. added x d >>= λ y. ok (writes y (cell_words (register s r ∷ []))))
call_of report s = none
call_of (figure r) s = none

-- a command's answer and the state after it, read off what its call answered and left
pub data ReadOff (s : State) (o : Outcome) : Command → Line → State → Type 0 where
  refused : {c : Command} {q : ℕ} → o.answer ≡ refuse q → ReadOff s o c (no_line q) s
  allocated : {r a : ℕ} (p : Ptr) (counts : List ℕ) → o.answer ≡ ok (p.heap ∷ p.base ∷ p.off ∷ counts)
      → ReadOff s o (alloc r a) (alloc_line p counts) (holding (some (decode o.image)) (put (cells_in o.roots) r (ref p)) s)
  loaded : {r p d : ℕ} {l : List ℕ} {c : Cell} → o.answer ≡ ok l → cells_in l ≡ c ∷ []
      → ReadOff s o (load r p d) (load_line c) (holding (some (decode o.image)) (put s.registers r c) s)
  stored : {r p d : ℕ} → o.answer ≡ ok []
      → ReadOff s o (store r p d) store_line (holding (some (decode o.image)) s.registers s)

-- A run of commands, command by command, from a state and an image to the last ones: its answers, and its calls with what they
-- answered and left. The state's heap is the image's all along; a command without a call leaves it; the others' answers and
-- states are those of their calls.
pub data Follows : State → List ℕ → List Command → List Line → List (Call × Outcome) → State → List ℕ → Type 0 where
  ends : {s : State} {w : List ℕ} → s.heap ≡ some (decode w) → Follows s w [] [] [] s w
  quiet : {s t u : State} {w v : List ℕ} {c : Command} {cs : List Command} {a : Line} {ls : List Line} {l : List (Call × Outcome)}
      → s.heap ≡ some (decode w) → call_of c s ≡ none → stepped s (step c s) ≡ (a, t)
      → Follows t w cs ls l u v → Follows s w (c ∷ cs) (a ∷ ls) l u v
  calls : {s t u : State} {w v : List ℕ} {c : Command} {cs : List Command} {a : Line} {ls : List Line} {l : List (Call × Outcome)} (k : Call) (o : Outcome)
      → s.heap ≡ some (decode w) → call_of c s ≡ some k → o ≡ call k w → stepped s (step c s) ≡ (a, t) → ReadOff s o c a t
      → Follows t o.image cs ls l u v → Follows s w (c ∷ cs) (a ∷ ls) ((k, o) ∷ l) u v

-- before the first report
abbrev pub NoReport : List Command → Type 0
NoReport cs = Memᴰ report cs → ⊥

-- sixteen registers with valid cells
pub record Registered (s : State) : Type 0 where
  pub sixteen : length s.registers ≡ 16
  pub valid_cells : all_valid s.registers ≡ true

-- the state with a fresh heap
abbrev pub opening : Sizes → State → State
opening z s = holding (some (fresh z)) s.registers s

-- `new`, then commands: the run follows its calls, which are a history from the fresh heap, each on a formed image, and demand 3
-- holds of it
pub record Served (s : State) (z : Sizes) (cs : List Command) : Type 0 where
  pub opens : stepped s (step (new z) s) ≡ (new_line, opening z s)
  pub answers : List Line
  pub events : List (Call × Outcome)
  pub last : State
  pub image : List ℕ
  pub follows : Follows (opening z s) (encode (fresh z)) cs answers events last image
  pub history : History (encode (fresh z)) events image
  pub met : AllFormed (encode (fresh z)) events
  pub demand : Demand z events image

-- Files

unfoldable pub state_after : State → List Command → State
state_after s [] = s
state_after s (c ∷ cs) = state_after (stepped s (step c s)).1 cs

-- commands that all find no heap, and none of which makes a call
abbrev pub Heapless : State → List Command → Type 0
Heapless s [] = s.heap ≡ none
Heapless s (c ∷ cs) = (s.heap ≡ none) × (call_of c s ≡ none) × Heapless (stepped s (step c s)).1 cs

-- answers as lines, numbered from n
unfoldable pub spelled : ℕ → List Line → List (List ℕ)
spelled n [] = []
spelled n (a ∷ ls) = line n a ∷ spelled (suc n) ls

-- commands before a heap, its `new`, commands up to the first report, and what is left
pub record ServedFile (file : List ℕ) : Type 0 where
  pub before : List Command
  pub sizes : Sizes
  pub commands : List Command
  pub rest : List Command
  pub parsed : (parse_all file).0 ≡ before ++ new sizes ∷ commands ++ rest
  pub heapless : Heapless started before
  pub in_bounds : program_bounds sizes ≡ true
  pub no_report : NoReport commands
  pub then_report : (rest ≡ []) ⊎ ((cs : List Command) × (rest ≡ report ∷ cs))
  pub served : Served (state_after started before) sizes commands
  pub printed : lines file
      ≡ lines_from 1 started before [] ++ line (suc (length before)) new_line ∷ spelled (suc (suc (length before))) served.answers
      ++ lines_from (suc (suc (length before)) + length commands) served.last rest (parse_all file).1
