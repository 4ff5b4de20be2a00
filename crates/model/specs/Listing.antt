-- The listing: the answers of a command file's run as text, a line for each command.
use Rattle.std.specs.Prelude.{true, false, cond, List, [], ◌∷◌, ◌++◌, ℕ, zero, suc, ◌+◌, ◌-◌, ◌%◌, ◌/◌, ltb, leb, eqb, length}
use Rattle.model.specs.Lists.{flat}
use Rattle.model.specs.Records.{Cell, plain, ref}
use Rattle.model.specs.Figure.{Figure}
use Rattle.model.specs.Command.{Command, parse_all}
use Rattle.model.specs.Run.{State, started, Line, new_line, alloc_line, set_line, load_line, store_line, report_line, figure_line, no_line, step, stepped}

-- a number below 10^20 in decimal
unfoldable pub digits : ℕ → ℕ → List ℕ
digits zero n = []
digits (suc k) n = elim (eqb (n / 10) 0) [ true ↦ (48 + n % 10) ∷ [] | false ↦ digits k (n / 10) ++ (48 + n % 10) ∷ [] ]

unfoldable pub decimal : ℕ → List ℕ
decimal n = digits 20 n

-- the word of an i64, signed
unfoldable pub signed : ℕ → List ℕ
signed w = cond (ltb w 0x8000_0000_0000_0000) (decimal w) (0x2D ∷ decimal (0x1_0000_0000_0000_0000 - w))

-- each after a space
unfoldable pub spaced : List ℕ → List ℕ
spaced [] = []
spaced (x ∷ xs) = 0x20 ∷ decimal x ++ spaced xs

-- with three decimals
unfoldable pub figure_text : Figure → List ℕ
figure_text f =
    let k = f.thousandths in
    cond f.negative (0x2D ∷ []) [] ++ decimal (k / 1000) ++ 0x2E ∷ (48 + k / 100 % 10) ∷ (48 + k / 10 % 10) ∷ (48 + k % 10) ∷ []

-- kind, heap, two words unsigned
unfoldable pub cell_text : Cell → List ℕ
cell_text (plain k v) = spaced (k ∷ 0 ∷ v ∷ 0 ∷ [])
cell_text (ref p) = spaced (5 ∷ p.heap ∷ p.base ∷ p.off ∷ [])

-- new, alloc, set, load, store, report, figure, no

unfoldable pub new_word : List ℕ
new_word = 0x6E ∷ 0x65 ∷ 0x77 ∷ []

unfoldable pub alloc_word : List ℕ
alloc_word = 0x61 ∷ 0x6C ∷ 0x6C ∷ 0x6F ∷ 0x63 ∷ []

unfoldable pub set_word : List ℕ
set_word = 0x73 ∷ 0x65 ∷ 0x74 ∷ []

unfoldable pub load_word : List ℕ
load_word = 0x6C ∷ 0x6F ∷ 0x61 ∷ 0x64 ∷ []

unfoldable pub store_word : List ℕ
store_word = 0x73 ∷ 0x74 ∷ 0x6F ∷ 0x72 ∷ 0x65 ∷ []

unfoldable pub report_word : List ℕ
report_word = 0x72 ∷ 0x65 ∷ 0x70 ∷ 0x6F ∷ 0x72 ∷ 0x74 ∷ []

unfoldable pub figure_word : List ℕ
figure_word = 0x66 ∷ 0x69 ∷ 0x67 ∷ 0x75 ∷ 0x72 ∷ 0x65 ∷ []

unfoldable pub no_word : List ℕ
no_word = 0x6E ∷ 0x6F ∷ []

-- an answer's text; an alloc's offset is signed
unfoldable pub line_text : Line → List ℕ
line_text new_line = new_word
line_text (alloc_line p counts) = alloc_word ++ spaced (p.heap ∷ p.base ∷ []) ++ 0x20 ∷ signed p.off ++ spaced counts
line_text set_line = set_word
line_text (load_line c) = load_word ++ cell_text c
line_text store_line = store_word
line_text (report_line numbers) = report_word ++ spaced numbers
line_text (figure_line f) = figure_word ++ 0x20 ∷ figure_text f
line_text (no_line q) = no_word ++ spaced (q ∷ [])

-- command number, text, LF
unfoldable pub line : ℕ → Line → List ℕ
line n l = decimal n ++ 0x20 ∷ line_text l ++ 0x0A ∷ []

-- a line for each command, then one for what is malformed
unfoldable pub lines_from : ℕ → State → List Command → List ℕ → List (List ℕ)
lines_from n s [] [] = []
lines_from n s [] (b ∷ w) = line n (no_line 12) ∷ []
lines_from n s (c ∷ cs) w = let r = stepped s (step c s) in line n r.0 ∷ lines_from (suc n) r.1 cs w

unfoldable pub longest_file : ℕ
longest_file = 65536

-- the file is within 65,536 bytes, or it prints only `1 no 12`; an empty file prints nothing
unfoldable pub lines : List ℕ → List (List ℕ)
lines file = elim (leb (length file) longest_file) [ true ↦ (let l = parse_all file in lines_from 1 started l.0 l.1) | false ↦ line 1 (no_line 12) ∷ [] ]

unfoldable pub listing : List ℕ → List ℕ
listing file = flat (lines file)
