-- Document 01's cases as rows of one table, with a row for each reading that a wrong definition would miss: tests/mutants looks
-- for one that no row refuses. A row is one call: the image before it, its answer, and every word that it leaves in image and
-- roots; or a part that no call shows whole. The images are written out by `picture`, which shares nothing with the definitions
-- on trial.
use Rattle.std.specs.Prelude.{◌≡◌, refl, Bool, true, false, ◌&&◌, cond, List, [], ◌∷◌, ◌++◌, map, ℕ, zero, suc, ◌+◌, ◌-◌, ◌*◌, ◌%◌, ◌/◌, eqb, ltb, length, take, set, replicate}
use Prim.Native.Char.{code}
use Prim.Native.String.{String, [] as done, ◌∷◌ as ◌then◌}
use Rattle.std.specs.Float.Ieee.{of_bits}
use Rattle.model.specs.Lists.{keep_if, flat, places, sum, all_at_most}
use Rattle.model.specs.Res.{Res, ok, refuse, ◌>>=◌, ask}
use Rattle.model.specs.Reach.{mem, add, enter, walk, closure}
use Rattle.model.specs.Records.{Ptr, blank, cell_words, cell_of, cells_of, scalar, valid_plain, valid, all_valid, valid_words, whole_cells, whole, same_ptr, biased, sum_fits, pointers, in_heap, pointers_to}
use Rattle.model.specs.Barrier.{cache, most, counts, count, up, down, count_in, count_out, masks, matches_mask, matches}
use Rattle.model.specs.Heap.{Elder, Sizes, in_bounds, fresh, part, held, in_use}
use Rattle.model.specs.Image.{image_length, sizes_of, regions, flag, barrier, cut, encode, decode, sized, cursor_in, tiles, flagged, packed_cells, formed}
use Rattle.model.specs.Nursery.{bump, matched, young_start, young_step, young_members, before, insert, sort, survivors, all_allocated, emptied, collect_young}
use Rattle.model.specs.Elder.{old_start, old_step, old_members, keeps, keep, count_dropped, sweep, collect_old, new_base, room, put, place, place_new, Step, move, sweeping, collect_if_full, move_one, moves_of, sweeps_of}
use Rattle.model.specs.Collector.{moved_to, holds, swap_cell, count_swap, swap_young, swap_old, swap_all, four_counts, alloc_again, collect_and_alloc, alloc, young_at, old_at, read, out_young, write_young, write_old, in_young, in_old, write, statistics, report}
use Rattle.model.specs.Calls.{cells_in, roots_good, value_good, scratch_length, opened, alloc_on, read_on, write_on, Outcome, allocated, left, reported, Call, allocs, reads, writes, call, report_call, new_call}
use Rattle.model.specs.Figure.{Figure, rounded, figure_of, figure}
use Rattle.model.specs.Command.{opcodes, operand_bytes, little_endian, field, command_of, registers_of, parse, parse_up_to, parse_all}
use Rattle.model.specs.Run.{Line, alloc_line, no_line, started, holding, register, program_bounds, the_heap, no_heap, pointer_in, added, float_in, step, stepped}
use Rattle.model.specs.Listing.{digits, decimal, signed, spaced, figure_text, cell_text, new_word, alloc_word, set_word, load_word, store_word, report_word, figure_word, no_word, line_text, line, lines_from, longest_file, lines, listing}

-- Images, written out

-- a barrier: absent, or present with these counts, each with its position; all others are zero
data Counts : Type 0 where
  absent : Counts
  present : List (ℕ × ℕ) → Counts

-- cursor, collections, promotions, barrier, lengths, cells
data Young : Type 0 where
  nursery : ℕ → ℕ → ℕ → Counts → List ℕ → List ℕ → Young

-- collections, barrier, lengths, cells
data Old : Type 0 where
  elder : ℕ → Counts → List ℕ → List ℕ → Old

-- words, some of them changed: position and new word of each
changed : List (ℕ × ℕ) → List ℕ → List ℕ
changed [] w = w
changed (p ∷ ps) w = set (changed ps w) p.0 p.1

-- words, and zeros up to k
padded : ℕ → List ℕ → List ℕ
padded k w = w ++ replicate (k - length w) 0

flag_word : Counts → ℕ
flag_word absent = 0
flag_word (present cs) = 1

count_words : Counts → List ℕ
count_words absent = replicate 256 0
count_words (present cs) = changed cs (replicate 256 0)

picture : Sizes → Young → Old → List ℕ
picture z (nursery cursor colls proms bar lens cells) (elder colls' bar' lens' cells') =
    z.n ∷ z.t ∷ z.s ∷ z.c ∷ cursor ∷ colls ∷ proms ∷ colls' ∷ flag_word bar ∷ flag_word bar'
    ∷ (count_words bar ++ count_words bar' ++ padded z.n lens ++ padded z.s lens' ++ padded (3 * z.n) cells ++ padded (3 * z.c) cells')

-- N, T, S, C
sizes : ℕ → ℕ → ℕ → ℕ → Sizes
sizes n t s c = record { n = n; t = t; s = s; c = c }

-- "From here N 4, T 8, S 8, C 16 unless given"
usual : Sizes
usual = sizes 4 8 8 16

-- an elder that never held anything
unused : Old
unused = elder 0 absent [] []

-- a fresh heap
clean : Sizes → List ℕ
clean z = picture z (nursery 0 0 0 absent [] []) unused

-- the words of a cell of each kind

int : ℕ → List ℕ
int v = 1 ∷ v ∷ 0 ∷ []

bool : ℕ → List ℕ
bool v = 2 ∷ v ∷ 0 ∷ []

float : ℕ → List ℕ
float bits = 3 ∷ bits ∷ 0 ∷ []

char : ℕ → List ℕ
char c = 4 ∷ c ∷ 0 ∷ []

ptr : ℕ → ℕ → ℕ → List ℕ
ptr h b o = (5 + 256 * h) ∷ b ∷ o ∷ []

-- a nursery of one cell, allocated at 0; and what it is after a collection with k members and an alloc of 3: the cell stays

one_cell : Young
one_cell = nursery 1 0 0 absent (1 ∷ []) (int 7)

then_three : ℕ → Young
then_three k = nursery 3 1 k absent (3 ∷ []) (int 7)

-- the words of −1, of the least and of the greatest i64; the bound of a count

minus1 : ℕ
minus1 = 0xFFFF_FFFF_FFFF_FFFF

least : ℕ
least = 0x8000_0000_0000_0000

greatest : ℕ
greatest = 0x7FFF_FFFF_FFFF_FFFF

full : ℕ
full = 4294967295

-- Rows

-- what is tried: a call, the report or a fresh heap on an image; what an alloc logs; sizes alone; cells alone; a Float's figure; what a
-- command leaves of its bytes, and all commands; a line; a command file
data Trial : Type 0 where
  calls : Call → Trial
  logs : List ℕ → ℕ → Trial
  reports : Trial
  makes : Sizes → Trial
  bounds : Sizes → Trial
  judges : List ℕ → Trial
  figures : ℕ → Trial
  parses : List ℕ → Trial
  parses_all : List ℕ → Trial
  writes_line : ℕ → Line → Trial
  runs : List ℕ → Trial

-- the image before it and after it; its answer, or the question that refuses it; the roots afterwards
record Row : Type 0 where
  before : List ℕ
  trial : Trial
  answer : Res (List ℕ)
  after : List ℕ
  roots : List ℕ

-- sign (1 for minus) and thousandths
figure_numbers : Res Figure → Res (List ℕ)
figure_numbers (ok f) = ok (cond f.negative 1 0 ∷ f.thousandths ∷ [])
figure_numbers (refuse q) = refuse q

pointer_numbers : List Ptr → List ℕ
pointer_numbers [] = []
pointer_numbers (p ∷ ps) = p.heap ∷ p.base ∷ p.off ∷ pointer_numbers ps

-- collections, lengths, cells
elder_numbers : Elder → List ℕ
elder_numbers e = e.colls ∷ map length e.slots ++ cell_words (flat e.slots)

-- what a step names, then the elder before it and after it
step_numbers : List Step → List ℕ
step_numbers [] = []
step_numbers (move p b e e' ∷ l) = pointer_numbers (p ∷ []) ++ b ∷ elder_numbers e ++ elder_numbers e' ++ step_numbers l
step_numbers (sweeping ps e e' ∷ l) = pointer_numbers ps ++ elder_numbers e ++ elder_numbers e' ++ step_numbers l

outcome : Trial → List ℕ → Outcome
outcome (calls c) w = call c w
outcome (logs roots amount) w = record { answer = opened w >>= λ h. alloc_on h roots 1_000_000 amount >>= λ r. ok (pointer_numbers r.members ++ step_numbers r.steps); image = w; roots = [] }
outcome reports w = report_call w
outcome (makes z) w = new_call z w
outcome (bounds z) w = record { answer = ask 1 (in_bounds z) >>= λ _. ok []; image = w; roots = [] }
outcome (judges cells) w = record { answer = ask 3 (all_valid (cells_in cells)) >>= λ _. ok []; image = w; roots = [] }
outcome (figures bits) w = record { answer = figure_numbers (figure bits); image = w; roots = [] }
outcome (parses file) w = record { answer = parse file >>= λ r. ok r.1; image = w; roots = [] }
outcome (parses_all file) w = record { answer = ok (parse_all file).1; image = w; roots = [] }
outcome (writes_line n l) w = record { answer = ok (line n l); image = w; roots = [] }
outcome (runs file) w = record { answer = ok (listing file); image = w; roots = [] }

same : List ℕ → List ℕ → Bool
same [] [] = true
same [] (y ∷ ys) = false
same (x ∷ xs) [] = false
same (x ∷ xs) (y ∷ ys) = eqb x y && same xs ys

same_answer : Res (List ℕ) → Res (List ℕ) → Bool
same_answer (ok l) (ok m) = same l m
same_answer (ok l) (refuse q) = false
same_answer (refuse q) (ok l) = false
same_answer (refuse q) (refuse r) = eqb q r

right : Row → Bool
right r = let o = outcome r.trial r.before in same_answer o.answer r.answer && same o.image r.after && same o.roots r.roots

every : List Row → Bool
every [] = true
every (r ∷ rs) = right r && every rs

-- The calls of the rows

to : ℕ → ℕ → ℕ → Ptr
to h b o = record { heap = h; base = b; off = o }

-- an alloc with these roots, and scratch enough
wants : List ℕ → ℕ → Trial
wants roots amount = calls (allocs roots 1_000_000 amount)

looks : Ptr → Trial
looks p = calls (reads p)

puts : Ptr → List ℕ → Trial
puts p value = calls (writes p value)

-- what alloc answers: heap, base, offset; nursery collections and visits, elder collections and visits
at : ℕ → ℕ → ℕ → ℕ → ℕ → ℕ → ℕ → Res (List ℕ)
at h b o c v c' v' = ok (h ∷ b ∷ o ∷ c ∷ v ∷ c' ∷ v' ∷ [])

roots_of : Trial → List ℕ
roots_of (calls (allocs roots scratch amount)) = roots
roots_of (calls (reads p)) = []
roots_of (calls (writes p value)) = []
roots_of (logs roots amount) = []
roots_of reports = []
roots_of (makes z) = []
roots_of (bounds z) = []
roots_of (judges cells) = []
roots_of (figures bits) = []
roots_of (parses file) = []
roots_of (parses_all file) = []
roots_of (writes_line n l) = []
roots_of (runs file) = []

-- a refusal leaves image and roots
refuses : ℕ → List ℕ → Trial → Row
refuses q w t = record { before = w; trial = t; answer = refuse q; after = w; roots = roots_of t }

-- a read leaves the image
shows : List ℕ → Ptr → List ℕ → Row
shows w p cell = record { before = w; trial = looks p; answer = ok cell; after = w; roots = [] }

-- a Float's bits; the figure's sign and thousandths
figured : ℕ → ℕ → ℕ → Row
figured bits sign thousandths = record { before = []; trial = figures bits; answer = ok (sign ∷ thousandths ∷ []); after = []; roots = [] }

-- The bytes of each command

-- k bytes, little-endian
little : ℕ → ℕ → List ℕ
little zero v = []
little (suc k) v = v % 256 ∷ little k (v / 256)

NEW : ℕ → ℕ → ℕ → ℕ → List ℕ
NEW n t s c = 0x4E ∷ little 2 n ++ little 2 t ++ little 2 s ++ little 2 c

-- destination register, amount
ALLOC : ℕ → ℕ → List ℕ
ALLOC r amount = 0x41 ∷ r ∷ little 8 amount

-- register; kind, heap, payload, offset
SET : ℕ → ℕ → ℕ → ℕ → ℕ → List ℕ
SET r kind heap payload offset = 0x56 ∷ r ∷ kind ∷ heap ∷ little 8 payload ++ little 8 offset

-- register, pointer register, added offset

LOAD : ℕ → ℕ → ℕ → List ℕ
LOAD r p offset = 0x4C ∷ r ∷ p ∷ little 8 offset

STORE : ℕ → ℕ → ℕ → List ℕ
STORE r p offset = 0x53 ∷ r ∷ p ∷ little 8 offset

REPORT : List ℕ
REPORT = 0x52 ∷ []

FIGURE : ℕ → List ℕ
FIGURE r = 0x46 ∷ r ∷ []

bytes : String → List ℕ
bytes done = []
bytes (c then s) = code c ∷ bytes s

file_of : List (List ℕ × String) → List ℕ
file_of [] = []
file_of (l ∷ ls) = l.0 ++ file_of ls

-- each line ends in LF
listing_of : List (List ℕ × String) → List ℕ
listing_of [] = []
listing_of (l ∷ ls) = bytes l.1 ++ 0x0A ∷ listing_of ls

-- a command file, each command with the line that it prints
prints : List (List ℕ × String) → Row
prints ls = record { before = []; trial = runs (file_of ls); answer = ok (listing_of ls); after = []; roots = [] }

-- a line, and its text
written : ℕ → Line → String → Row
written n l text = record { before = []; trial = writes_line n l; answer = ok (listing_of (([], text) ∷ [])); after = []; roots = [] }

-- The table

-- C1. Commands: new 4, 2, 8, 16; alloc 2 to register 0; set 1 to Int 7; store 1 at 0 + 1; alloc 2 to 2; load 3 from 0 + 1; load 4
-- from 2 + 1; load 5 from 0 + 2; report.
first_run : List (List ℕ × String)
first_run =
    (NEW 4 2 8 16, "1 new")
    ∷ (ALLOC 0 2, "2 alloc 0 0 0 0 0 0 0")
    ∷ (SET 1 1 0 7 0, "3 set")
    ∷ (STORE 1 0 1, "4 store")
    ∷ (ALLOC 2 2, "5 alloc 0 0 0 1 1 0 0")
    ∷ (LOAD 3 0 1, "6 load 1 0 7 0")
    ∷ (LOAD 4 2 1, "7 load 1 0 7 0")
    ∷ (LOAD 5 0 2, "8 no 8")
    ∷ (REPORT, "9 report 1 1 2 0 2 1 0 1 2 0 0")
    ∷ []

-- C12, printed
figure_run : List (List ℕ × String)
figure_run =
    (SET 0 3 0 0x3FB0_0000_0000_0000 0 ++ FIGURE 0, "1 set\n2 figure 0.062")
    ∷ (SET 0 3 0 0xBF3A_36E2_EB1C_432D 0 ++ FIGURE 0, "3 set\n4 figure 0.000")
    ∷ (SET 0 3 0 0x7FF8_0000_0000_0000 0 ++ FIGURE 0, "5 set\n6 no 15")
    ∷ (SET 0 3 0 0x412E_847F_FFCB_923A 0 ++ FIGURE 0, "7 set\n8 no 15")
    ∷ (SET 0 3 0 0x3FC8_0000_0000_0000 0 ++ FIGURE 0, "9 set\n10 figure 0.188")
    ∷ []

-- C1 to C12
cases : List Row
cases =
    -- C1
    prints first_run
    -- C2. Amounts 0 and −1: 5.
    ∷ refuses 5 (clean usual) (wants [] 0)
    ∷ refuses 5 (clean usual) (wants [] minus1)
    -- C3. Fresh, N 4: alloc 3 stays young, alloc 1 then collects.
    ∷ record {
      before = clean usual;
      trial = wants [] 3;
      answer = at 0 0 0 0 0 0 0;
      after = picture usual (nursery 3 0 0 absent (3 ∷ []) []) unused;
      roots = [];
    }
    ∷ record {
      before = picture usual (nursery 3 0 0 absent (3 ∷ []) []) unused;
      trial = wants [] 1;
      answer = at 0 0 0 1 0 0 0;
      after = picture usual (nursery 1 1 0 absent (1 ∷ []) []) unused;
      roots = [];
    }
    -- C4. Fresh, N 4: alloc 4 gives (1, 0, 0).
    ∷ record {
      before = clean usual;
      trial = wants [] 4;
      answer = at 1 0 0 1 0 0 0;
      after = picture usual (nursery 0 1 0 absent [] []) (elder 0 absent (4 ∷ []) []);
      roots = [];
    }
    -- C5. N 4: (0, 2^64 − 1, 1) reads cell 0; (0, 0, 4): 8; (0, 2^63 − 1, 1): 9.
    ∷ shows (picture usual (nursery 0 0 0 absent [] (int 7 ++ int 8)) unused) (to 0 minus1 1) (int 7)
    ∷ refuses 8 (clean usual) (looks (to 0 0 4))
    ∷ refuses 9 (clean usual) (looks (to 0 greatest 1))
    -- C6. Root (0, 1, 0), no allocation at 1, collection: 6.
    ∷ refuses 6 (clean usual) (wants (ptr 0 1 0) 4)
    -- C7. Roots (0, 0, 0) and (0, 0, 1) with 0 allocated: two copies, both at offset 0.
    ∷ record {
      before = picture usual one_cell unused;
      trial = wants (ptr 0 0 0 ++ ptr 0 0 1) 3;
      answer = at 0 0 0 1 2 0 0;
      after = picture usual (then_three 2) (elder 0 absent (1 ∷ 1 ∷ []) (int 7 ++ int 7));
      roots = ptr 1 0 0 ++ ptr 1 1 0;
    }
    -- C8. T 3, S 4, nursery 0 and elder 0, 1, 2 of one cell each without pointers, barriers absent, roots (1, 0, 0), (1, 2, 0),
    -- (0, 0, 0), alloc 3: 1 is dropped, the move replaces 2, 3 elder visits.
    ∷ record {
      before = picture (sizes 4 3 4 16) one_cell (elder 0 absent (1 ∷ 1 ∷ 1 ∷ []) (int 10 ++ int 11 ++ int 12));
      trial = wants (ptr 1 0 0 ++ ptr 1 2 0 ++ ptr 0 0 0) 3;
      answer = at 0 0 0 1 3 1 3;
      after = picture (sizes 4 3 4 16) (then_three 3) (elder 1 absent (1 ∷ 0 ∷ 1 ∷ []) (int 10 ++ int 7));
      roots = ptr 1 0 0 ++ ptr 1 2 0 ++ ptr 1 2 0;
    }
    -- C9. Root (1, 0, 1) alone doesn't keep elder 0: T 1, and a young root whose move makes the elder collect.
    ∷ record {
      before = picture (sizes 4 1 8 16) one_cell (elder 0 absent (1 ∷ []) (int 10));
      trial = wants (ptr 1 0 1 ++ ptr 0 0 0) 3;
      answer = at 0 0 0 1 2 1 2;
      after = picture (sizes 4 1 8 16) (then_three 2) (elder 1 absent (1 ∷ []) (int 7));
      roots = ptr 1 0 1 ++ ptr 1 0 0;
    }
    -- C10. Mask 1 matches 1 and 3, not 2: of nursery 0 to 3, an elder cell's (0, 1, 0) moves 1 and 3.
    ∷ record {
      before = picture (sizes 5 8 8 16) (nursery 4 0 0 absent (1 ∷ 1 ∷ 1 ∷ 1 ∷ []) (int 10 ++ int 11 ++ int 12 ++ int 13)) (elder 0 (present ((1, 1) ∷ [])) (1 ∷ []) (ptr 0 1 0));
      trial = wants [] 1;
      answer = at 0 0 0 1 2 0 0;
      after = picture (sizes 5 8 8 16) (nursery 1 1 2 absent (1 ∷ []) (int 10 ++ int 11 ++ int 12 ++ int 13)) (elder 0 (present []) (1 ∷ 1 ∷ 1 ∷ []) (ptr 1 1 0 ++ int 11 ++ int 13));
      roots = [];
    }
    -- and of elder 0 to 3, a nursery cell's (1, 1, 0) keeps 1 and 3
    ∷ record {
      before = picture (sizes 4 4 8 16) (nursery 1 0 0 (present ((1, 1) ∷ [])) (1 ∷ []) (ptr 1 1 0)) (elder 0 absent (1 ∷ 1 ∷ 1 ∷ 1 ∷ []) (int 10 ++ int 11 ++ int 12 ++ int 13));
      trial = wants (ptr 0 0 0) 3;
      answer = at 0 0 0 1 1 1 3;
      after = picture (sizes 4 4 8 16) (nursery 3 1 1 absent (3 ∷ []) (ptr 1 1 0)) (elder 1 absent (0 ∷ 1 ∷ 1 ∷ 1 ∷ []) (int 11 ++ ptr 1 1 0 ++ int 13));
      roots = ptr 1 2 0;
    }
    -- C11. After a collection cell 0, allocated again, holds a stale (1, 5, 0).
    ∷ record {
      before = picture usual (nursery 2 0 0 (present ((5, 1) ∷ [])) (2 ∷ []) (ptr 1 5 0)) unused;
      trial = wants [] 2;
      answer = at 0 0 0 1 0 0 0;
      after = picture usual (nursery 2 1 0 absent (2 ∷ []) (ptr 1 5 0)) unused;
      roots = [];
    }
    -- Writing over it is fine;
    ∷ record {
      before = picture usual (nursery 2 1 0 absent (2 ∷ []) (ptr 1 5 0)) unused;
      trial = puts (to 0 0 0) (int 7);
      answer = ok [];
      after = picture usual (nursery 2 1 0 absent (2 ∷ []) (int 7)) unused;
      roots = [];
    }
    -- after (1, 6, 0) went into cell 1 first, it gives 10.
    ∷ record {
      before = picture usual (nursery 2 1 0 absent (2 ∷ []) (ptr 1 5 0)) unused;
      trial = puts (to 0 0 1) (ptr 1 6 0);
      answer = ok [];
      after = picture usual (nursery 2 1 0 (present ((6, 1) ∷ [])) (2 ∷ []) (ptr 1 5 0 ++ ptr 1 6 0)) unused;
      roots = [];
    }
    ∷ refuses 10 (picture usual (nursery 2 1 0 (present ((6, 1) ∷ [])) (2 ∷ []) (ptr 1 5 0 ++ ptr 1 6 0)) unused) (puts (to 0 0 0) (int 7))
    -- C12, as R-1 amends it. Figures: 0.0625 is 0.062, −0.0004 is 0.000, NaN and 999999.9996: 15. And 0.1875 is 0.188.
    ∷ figured 0x3FB0_0000_0000_0000 0 62
    ∷ figured 0xBF3A_36E2_EB1C_432D 0 0
    ∷ refuses 15 [] (figures 0x7FF8_0000_0000_0000)
    ∷ refuses 15 [] (figures 0x412E_847F_FFCB_923A)
    ∷ figured 0x3FC8_0000_0000_0000 0 188
    ∷ prints figure_run
    ∷ []

-- Nursery
nursery_rows : List Row
nursery_rows =
    -- base = cursor; an amount of N − cursor − 1 stays young
    record {
      before = picture usual one_cell unused;
      trial = wants [] 2;
      answer = at 0 1 0 0 0 0 0;
      after = picture usual (nursery 3 0 0 absent (1 ∷ 2 ∷ []) (int 7)) unused;
      roots = [];
    }
    -- it changes the cursor and one length, and nothing else
    ∷ record {
      before = picture usual (nursery 1 2 3 (present ((5, 1) ∷ [])) (1 ∷ []) (ptr 1 5 0)) (elder 4 (present ((6, 2) ∷ [])) (0 ∷ 2 ∷ []) (int 20 ++ ptr 0 6 0));
      trial = wants (ptr 0 0 0) 2;
      answer = at 0 1 0 0 0 0 0;
      after = picture usual (nursery 3 2 3 (present ((5, 1) ∷ [])) (1 ∷ 2 ∷ []) (ptr 1 5 0)) (elder 4 (present ((6, 2) ∷ [])) (0 ∷ 2 ∷ []) (int 20 ++ ptr 0 6 0));
      roots = ptr 0 0 0;
    }
    -- cells aren't cleared
    ∷ record {
      before = picture usual (nursery 0 1 0 absent [] (int 7)) unused;
      trial = wants [] 1;
      answer = at 0 0 0 0 0 0 0;
      after = picture usual (nursery 1 1 0 absent (1 ∷ []) (int 7)) unused;
      roots = [];
    }
    -- N 0: each alloc collects, and goes to the elder
    ∷ record {
      before = clean (sizes 0 8 8 16);
      trial = wants [] 1;
      answer = at 1 0 0 1 0 0 0;
      after = picture (sizes 0 8 8 16) (nursery 0 1 0 absent [] []) (elder 0 absent (1 ∷ []) []);
      roots = [];
    }
    -- only members move, at a later collection as at the first; other roots stay
    ∷ record {
      before = picture usual (nursery 2 3 9 absent (1 ∷ 1 ∷ []) (int 7 ++ int 8)) unused;
      trial = wants (int 9 ++ ptr 0 1 5 ++ ptr 1 2 3) 2;
      answer = at 0 0 0 1 2 0 0;
      after = picture usual (nursery 2 4 11 absent (2 ∷ []) (int 7 ++ int 8)) (elder 0 absent (1 ∷ []) (int 8));
      roots = int 9 ++ ptr 1 0 0 ++ ptr 1 2 3;
    }
    -- moved in order: by base,
    ∷ record {
      before = picture usual (nursery 2 0 0 absent (1 ∷ 1 ∷ []) (int 7 ++ int 8)) unused;
      trial = wants (ptr 0 1 0 ++ ptr 0 0 5) 2;
      answer = at 0 0 0 1 2 0 0;
      after = picture usual (nursery 2 1 2 absent (2 ∷ []) (int 7 ++ int 8)) (elder 0 absent (1 ∷ 1 ∷ []) (int 7 ++ int 8));
      roots = ptr 1 1 0 ++ ptr 1 0 0;
    }
    -- then signed offset
    ∷ record {
      before = picture usual one_cell unused;
      trial = wants (ptr 0 0 2 ++ ptr 0 0 (minus1 - 2) ++ ptr 0 0 0x1_0000_0000 ++ ptr 0 0 1) 3;
      answer = at 0 0 0 1 4 0 0;
      after = picture usual (then_three 4) (elder 0 absent (replicate 4 1) (int 7 ++ int 7 ++ int 7 ++ int 7));
      roots = ptr 1 2 0 ++ ptr 1 0 0 ++ ptr 1 3 0 ++ ptr 1 1 0;
    }
    -- a member leads to the own-heap pointers in the whole allocation at its base, whatever its offset. The moved cell (0, 2, 0)
    -- is counted in with the elder, and out when it becomes (1, 1, 0); the stale one at 0 becomes that too, and is counted in
    ∷ record {
      before = picture usual (nursery 3 0 0 absent (2 ∷ 0 ∷ 1 ∷ []) (ptr 0 2 0 ++ ptr 1 6 0 ++ int 9)) unused;
      trial = wants (ptr 0 0 1) 1;
      answer = at 0 0 0 1 2 0 0;
      after = picture usual (nursery 1 1 2 (present ((1, 1) ∷ [])) (1 ∷ []) (ptr 1 1 0 ++ ptr 1 6 0 ++ int 9)) (elder 0 (present []) (2 ∷ 1 ∷ []) (ptr 1 1 0 ++ ptr 1 6 0 ++ int 9));
      roots = ptr 1 0 0;
    }
    -- that is each of its cells: behind its first, nursery 0 holds (0, 3, 0) twice. Both are counted in with the elder, and out
    -- when they become (1, 1, 0); both stale ones become that too, and are counted in
    ∷ record {
      before = picture (sizes 5 8 8 16) (nursery 4 0 0 absent (3 ∷ 0 ∷ 0 ∷ 1 ∷ []) (int 7 ++ ptr 0 3 0 ++ ptr 0 3 0 ++ int 9)) unused;
      trial = wants (ptr 0 0 0) 3;
      answer = at 0 0 0 1 2 0 0;
      after = picture (sizes 5 8 8 16) (nursery 3 1 2 (present ((1, 2) ∷ [])) (3 ∷ []) (int 7 ++ ptr 1 1 0 ++ ptr 1 1 0 ++ int 9)) (elder 0 (present []) (3 ∷ 1 ∷ []) (int 7 ++ ptr 1 1 0 ++ ptr 1 1 0 ++ int 9));
      roots = ptr 1 0 0;
    }
    -- a foreign member leads on as well: root (1, 0, 0) to the (0, 1, 0) in nursery 0
    ∷ record {
      before = picture usual (nursery 2 0 0 absent (1 ∷ 1 ∷ []) (ptr 0 1 0 ++ int 8)) unused;
      trial = wants (ptr 1 0 0) 2;
      answer = at 0 0 0 1 2 0 0;
      after = picture usual (nursery 2 1 2 (present ((0, 1) ∷ [])) (2 ∷ []) (ptr 1 0 0 ++ int 8)) (elder 0 absent (1 ∷ []) (int 8));
      roots = ptr 1 0 0;
    }
    -- but only by a nursery allocation at its base: the stale (0, 3, 0) at 2 is no member
    ∷ record {
      before = picture usual (nursery 1 0 0 absent (1 ∷ []) (int 7 ++ int 8 ++ ptr 0 3 0)) unused;
      trial = wants (ptr 1 2 0) 3;
      answer = at 0 0 0 1 1 0 0;
      after = picture usual (nursery 3 1 1 absent (3 ∷ []) (int 7 ++ int 8 ++ ptr 0 3 0)) unused;
      roots = ptr 1 2 0;
    }
    -- each pointer is entered once: two roots and a start by mask 0 are one member. The count has no cell, and stays
    ∷ record {
      before = picture usual one_cell (elder 0 (present ((0, 1) ∷ [])) [] []);
      trial = wants (ptr 0 0 0 ++ ptr 0 0 0) 3;
      answer = at 0 0 0 1 1 0 0;
      after = picture usual (then_three 1) (elder 0 (present ((0, 1) ∷ [])) (1 ∷ []) (int 7));
      roots = ptr 1 0 0 ++ ptr 1 0 0;
    }
    -- mask 0 matches each allocated base, whatever its count
    ∷ record {
      before = picture usual (nursery 3 0 0 absent (1 ∷ 2 ∷ []) (int 7 ++ int 8 ++ int 9)) (elder 0 (present ((0, 2) ∷ [])) [] []);
      trial = wants [] 1;
      answer = at 0 0 0 1 2 0 0;
      after = picture usual (nursery 1 1 2 absent (1 ∷ []) (int 7 ++ int 8 ++ int 9)) (elder 0 (present ((0, 2) ∷ [])) (1 ∷ 2 ∷ []) (int 7 ++ int 8 ++ int 9));
      roots = [];
    }
    -- and no mask matches one that is not: 1 is inside nursery 0
    ∷ record {
      before = picture usual (nursery 2 0 0 absent (2 ∷ []) (int 7 ++ int 8)) (elder 0 (present ((1, 1) ∷ [])) [] []);
      trial = wants [] 2;
      answer = at 0 0 0 1 0 0 0;
      after = picture usual (nursery 2 1 0 absent (2 ∷ []) (int 7 ++ int 8)) (elder 0 (present ((1, 1) ∷ [])) [] []);
      roots = [];
    }
    -- every one bit of a mask is a one in the base, and a heap's masks are the other's counts alone: of 0 to 5, mask 3 moves
    -- nursery 3, and mask 5 keeps elder 5
    ∷ record {
      before = picture (sizes 7 6 8 16) (nursery 6 0 0 (present ((5, 1) ∷ [])) (replicate 6 1) (ptr 1 5 0 ++ int 11 ++ int 12 ++ int 13 ++ int 14 ++ int 15)) (elder 0 (present ((3, 1) ∷ [])) (replicate 6 1) (ptr 0 3 0 ++ int 21 ++ int 22 ++ int 23 ++ int 24 ++ int 25));
      trial = wants [] 1;
      answer = at 0 0 0 1 1 1 1;
      after = picture (sizes 7 6 8 16) (nursery 1 1 1 absent (1 ∷ []) (ptr 1 5 0 ++ int 11 ++ int 12 ++ int 13 ++ int 14 ++ int 15)) (elder 1 (present []) (0 ∷ 1 ∷ 0 ∷ 0 ∷ 0 ∷ 1 ∷ []) (int 13 ++ int 25));
      roots = [];
    }
    -- a mask has eight bits: 128 moves nursery 128, and not 0
    ∷ record {
      before = picture (sizes 130 8 8 16) (nursery 129 0 0 absent (128 ∷ replicate 127 0 ++ 1 ∷ []) []) (elder 0 (present ((128, 1) ∷ [])) [] []);
      trial = wants [] 1;
      answer = at 0 0 0 1 1 0 0;
      after = picture (sizes 130 8 8 16) (nursery 1 1 1 absent (1 ∷ []) []) (elder 0 (present ((128, 1) ∷ [])) (1 ∷ []) []);
      roots = [];
    }
    -- 6 asks of own-heap members: one that a member leads to,
    ∷ refuses 6 (picture usual (nursery 1 0 0 absent (1 ∷ []) (ptr 0 2 0)) unused) (wants (ptr 0 0 0) 3)
    -- one that points behind the nursery,
    ∷ refuses 6 (picture usual one_cell unused) (wants (ptr 0 4 0) 3)
    ∷ refuses 6 (picture usual one_cell unused) (wants (ptr 0 0x1_0000_0000 0) 3)
    -- one that points into an allocation,
    ∷ refuses 6 (picture usual (nursery 2 0 0 absent (2 ∷ []) (int 7 ++ int 8)) unused) (wants (ptr 0 1 0) 2)
    -- and of nothing else: neither what dropped and stale cells hold, nor a foreign member
    ∷ record {
      before = picture usual (nursery 2 0 0 absent (1 ∷ 1 ∷ []) (int 7 ++ ptr 0 3 0 ++ ptr 0 2 0)) unused;
      trial = wants (ptr 0 0 0 ++ ptr 1 3 0) 2;
      answer = at 0 0 0 1 2 0 0;
      after = picture usual (nursery 2 1 2 absent (2 ∷ []) (int 7 ++ ptr 0 3 0 ++ ptr 0 2 0)) (elder 0 absent (1 ∷ []) (int 7));
      roots = ptr 1 0 0 ++ ptr 1 3 0;
    }
    -- the pointers change in nursery cells below the cursor, and not behind it
    ∷ record {
      before = picture usual (nursery 3 0 0 absent (1 ∷ 2 ∷ []) (ptr 0 1 0 ++ ptr 0 1 0 ++ int 9)) unused;
      trial = wants (ptr 0 1 0) 1;
      answer = at 0 0 0 1 1 0 0;
      after = picture usual (nursery 1 1 1 (present ((0, 1) ∷ [])) (1 ∷ []) (ptr 1 0 0 ++ ptr 0 1 0 ++ int 9)) (elder 0 (present []) (2 ∷ []) (ptr 1 0 0 ++ int 9));
      roots = ptr 1 0 0;
    }
    -- the amount goes to the elder behind what was moved; no nursery cell is below the cursor then
    ∷ record {
      before = picture usual (nursery 1 0 0 absent (1 ∷ []) (ptr 0 0 0)) unused;
      trial = wants (ptr 0 0 0) 4;
      answer = at 1 1 0 1 1 0 0;
      after = picture usual (nursery 0 1 1 absent [] (ptr 0 0 0)) (elder 0 (present []) (1 ∷ 4 ∷ []) (ptr 1 0 0));
      roots = ptr 1 0 0;
    }
    -- and only once all are moved: what is moved second still holds (0, 0, 0), which is counted in with the elder, and then out
    ∷ record {
      before = picture usual (nursery 2 0 0 absent (1 ∷ 1 ∷ []) (int 7 ++ ptr 0 0 0)) unused;
      trial = wants (ptr 0 0 0 ++ ptr 0 1 0) 2;
      answer = at 0 0 0 1 2 0 0;
      after = picture usual (nursery 2 1 2 (present ((0, 1) ∷ [])) (2 ∷ []) (int 7 ++ ptr 1 0 0)) (elder 0 (present []) (1 ∷ 1 ∷ []) (int 7 ++ ptr 1 0 0));
      roots = ptr 1 0 0 ++ ptr 1 1 0;
    }
    -- the walk goes on to its end, past R + N members: masks 1 and 2 start at six bases, whose cells lead to six pointers more,
    -- the last of these to another
    ∷ record {
      before = picture (sizes 9 16 16 16)
          (nursery 8 0 0 absent (replicate 8 1) (ptr 0 0 9 ++ ptr 0 1 1 ++ ptr 0 2 1 ++ ptr 0 3 1 ++ int 4 ++ ptr 0 5 1 ++ ptr 0 6 1 ++ ptr 0 0 0))
          (elder 0 (present ((1, 1) ∷ (2, 1) ∷ [])) [] []);
      trial = wants [] 1;
      answer = at 0 0 0 1 13 0 0;
      after = picture (sizes 9 16 16 16)
          (nursery 1 1 13 (present ((1, 1) ∷ [])) (1 ∷ []) (ptr 1 1 0 ++ ptr 0 1 1 ++ ptr 0 2 1 ++ ptr 0 3 1 ++ int 4 ++ ptr 0 5 1 ++ ptr 0 6 1 ++ ptr 0 0 0))
          (elder 0 (present ((1, 1) ∷ (2, 1) ∷ [])) (replicate 13 1)
          (ptr 1 1 0 ++ ptr 1 1 0 ++ ptr 1 3 0 ++ ptr 1 3 0 ++ ptr 1 5 0 ++ ptr 1 5 0 ++ ptr 1 7 0 ++ ptr 1 7 0 ++ ptr 1 9 0 ++ ptr 1 9 0 ++ ptr 1 11 0 ++ ptr 1 11 0 ++ ptr 1 0 0));
      roots = [];
    }
    ∷ []

-- nine that lead nowhere in an elder of one slot
nine_roots : List ℕ
nine_roots = ptr 1 1 0 ++ ptr 1 2 0 ++ ptr 1 3 0 ++ ptr 1 4 0 ++ ptr 1 5 0 ++ ptr 1 6 0 ++ ptr 1 7 0 ++ ptr 1 8 0 ++ ptr 1 9 0

-- eleven that lead back to elder 0, and one to elder 1
twelve_cells : List ℕ
twelve_cells = ptr 1 0 1 ++ ptr 1 0 2 ++ ptr 1 0 3 ++ ptr 1 0 4 ++ ptr 1 0 5 ++ ptr 1 0 6 ++ ptr 1 0 7 ++ ptr 1 0 8 ++ ptr 1 0 9 ++ ptr 1 0 10 ++ ptr 1 0 11 ++ ptr 1 1 0

-- Elder generation
elder_rows : List Row
elder_rows =
    -- a foreign member leads on in the elder too: root (0, 0, 0) to the (1, 2, 0) in elder 0, which itself is dropped
    record {
      before = picture (sizes 4 3 8 16) one_cell (elder 0 absent (1 ∷ 1 ∷ 1 ∷ []) (ptr 1 2 0 ++ int 11 ++ int 12));
      trial = wants (ptr 0 0 0) 3;
      answer = at 0 0 0 1 1 1 2;
      after = picture (sizes 4 3 8 16) (then_three 1) (elder 1 absent (0 ∷ 1 ∷ 1 ∷ []) (int 7 ++ int 12));
      roots = ptr 1 1 0;
    }
    -- a member with an offset leads on, and keeps nothing: (1, 2, 3) in elder 0 to the (1, 1, 0) in elder 2
    ∷ record {
      before = picture (sizes 4 3 8 16) one_cell (elder 0 absent (1 ∷ 1 ∷ 1 ∷ []) (ptr 1 2 3 ++ int 11 ++ ptr 1 1 0));
      trial = wants (ptr 1 0 0 ++ ptr 0 0 0) 3;
      answer = at 0 0 0 1 2 1 4;
      after = picture (sizes 4 3 8 16) (then_three 2) (elder 1 absent (1 ∷ 1 ∷ 1 ∷ []) (ptr 1 2 3 ++ int 11 ++ int 7));
      roots = ptr 1 0 0 ++ ptr 1 2 0;
    }
    -- the masks are those of the call's start: the nursery's barrier is gone when the elder collects, and its mask 0 still keeps elder 0
    ∷ record {
      before = picture (sizes 4 1 8 16) (nursery 1 0 0 (present ((0, 1) ∷ [])) (1 ∷ []) (ptr 1 0 0)) (elder 0 absent (1 ∷ []) (int 10));
      trial = wants (ptr 0 0 0) 3;
      answer = at 0 0 0 1 1 1 2;
      after = picture (sizes 4 1 8 16) (nursery 3 1 1 absent (3 ∷ []) (ptr 1 0 0)) (elder 1 absent (1 ∷ 1 ∷ []) (int 10 ++ ptr 1 0 0));
      roots = ptr 1 1 0;
    }
    -- the elder as the moves before left it: mask 0 keeps what the first move brought
    ∷ record {
      before = picture (sizes 4 1 8 16) (nursery 2 0 0 (present ((0, 1) ∷ [])) (1 ∷ 1 ∷ []) (int 7 ++ int 8)) unused;
      trial = wants (ptr 0 0 0 ++ ptr 0 1 0) 2;
      answer = at 0 0 0 1 2 1 3;
      after = picture (sizes 4 1 8 16) (nursery 2 1 2 absent (2 ∷ []) (int 7 ++ int 8)) (elder 1 absent (1 ∷ 1 ∷ []) (int 7 ++ int 8));
      roots = ptr 1 0 0 ++ ptr 1 1 0;
    }
    -- at each collection: mask 0 keeps what two moves brought
    ∷ record {
      before = picture (sizes 4 1 8 16) (nursery 3 0 0 (present ((0, 1) ∷ [])) (1 ∷ 1 ∷ 1 ∷ []) (int 7 ++ int 8 ++ int 9)) unused;
      trial = wants (ptr 0 0 0 ++ ptr 0 1 0 ++ ptr 0 2 0) 3;
      answer = at 0 0 0 1 3 2 9;
      after = picture (sizes 4 1 8 16) (nursery 3 1 3 absent (3 ∷ []) (int 7 ++ int 8 ++ int 9)) (elder 2 absent (1 ∷ 1 ∷ 1 ∷ []) (int 7 ++ int 8 ++ int 9));
      roots = ptr 1 0 0 ++ ptr 1 1 0 ++ ptr 1 2 0;
    }
    -- with cells not changed yet: mask 1 keeps elder 1, whose (0, 0, 0) keeps nothing; elder 0 is dropped, and 1 replaced
    ∷ record {
      before = picture (sizes 4 2 8 16) (nursery 3 0 0 (present ((1, 1) ∷ [])) (1 ∷ 1 ∷ 1 ∷ []) (int 7 ++ ptr 0 0 0 ++ int 9)) unused;
      trial = wants (ptr 0 0 0 ++ ptr 0 1 0 ++ ptr 0 2 0) 3;
      answer = at 0 0 0 1 3 1 4;
      after = picture (sizes 4 2 8 16) (nursery 3 1 3 (present ((0, 1) ∷ [])) (3 ∷ []) (int 7 ++ ptr 1 0 0 ++ int 9)) (elder 1 (present ((0, 1) ∷ [])) (0 ∷ 1 ∷ []) (int 9));
      roots = ptr 1 0 0 ++ ptr 1 1 0 ++ ptr 1 1 0;
    }
    -- the call's unmoved roots: they keep no copy, and each of two collections drops the one before it
    ∷ record {
      before = picture (sizes 4 1 8 16) (nursery 3 0 0 absent (1 ∷ 1 ∷ 1 ∷ []) (int 7 ++ int 8 ++ int 9)) unused;
      trial = wants (ptr 0 0 0 ++ ptr 0 1 0 ++ ptr 0 2 0) 3;
      answer = at 0 0 0 1 3 2 6;
      after = picture (sizes 4 1 8 16) (nursery 3 1 3 absent (3 ∷ []) (int 7 ++ int 8 ++ int 9)) (elder 2 absent (1 ∷ []) (int 9));
      roots = ptr 1 0 0 ++ ptr 1 0 0 ++ ptr 1 0 0;
    }
    -- T or more, and each cell: T 1 and three held; the second cell of elder 0 keeps 1, that of elder 2, which is dropped, is
    -- counted out
    ∷ record {
      before = picture (sizes 4 1 8 16) one_cell (elder 0 (present ((1, 1) ∷ [])) (2 ∷ 1 ∷ 2 ∷ []) (int 10 ++ ptr 1 1 0 ++ int 11 ++ int 12 ++ ptr 0 1 5));
      trial = wants (ptr 1 0 0 ++ ptr 0 0 0) 3;
      answer = at 0 0 0 1 2 1 3;
      after = picture (sizes 4 1 8 16) (then_three 2) (elder 1 (present []) (2 ∷ 1 ∷ 1 ∷ []) (int 10 ++ ptr 1 1 0 ++ int 11 ++ int 7));
      roots = ptr 1 0 0 ++ ptr 1 2 0;
    }
    -- a root without an allocation is a member like any other
    ∷ record {
      before = picture (sizes 4 1 8 16) one_cell (elder 0 absent (1 ∷ []) (int 10));
      trial = wants (ptr 1 5 0 ++ ptr 0 0 0) 3;
      answer = at 0 0 0 1 2 1 2;
      after = picture (sizes 4 1 8 16) (then_three 2) (elder 1 absent (1 ∷ []) (int 7));
      roots = ptr 1 5 0 ++ ptr 1 0 0;
    }
    -- T counts allocations, and neither cells
    ∷ record {
      before = picture (sizes 4 3 8 16) one_cell (elder 0 absent (3 ∷ []) (int 10 ++ int 11 ++ int 12));
      trial = wants (ptr 0 0 0) 3;
      answer = at 0 0 0 1 1 0 0;
      after = picture (sizes 4 3 8 16) (then_three 1) (elder 0 absent (3 ∷ 1 ∷ []) (int 10 ++ int 11 ++ int 12 ++ int 7));
      roots = ptr 1 1 0;
    }
    -- nor bases
    ∷ record {
      before = picture (sizes 4 3 8 16) one_cell (elder 0 absent (0 ∷ 0 ∷ 1 ∷ []) (int 10));
      trial = wants (ptr 0 0 0) 3;
      answer = at 0 0 0 1 1 0 0;
      after = picture (sizes 4 3 8 16) (then_three 1) (elder 0 absent (0 ∷ 1 ∷ 1 ∷ []) (int 7 ++ int 10));
      roots = ptr 1 1 0;
    }
    -- T 0: each move collects, even if nothing is held
    ∷ record {
      before = picture (sizes 4 0 8 16) one_cell unused;
      trial = wants (ptr 0 0 0) 3;
      answer = at 0 0 0 1 1 1 1;
      after = picture (sizes 4 0 8 16) (then_three 1) (elder 1 absent (1 ∷ []) (int 7));
      roots = ptr 1 0 0;
    }
    -- a new allocation: without an elder collection, though T is reached
    ∷ record {
      before = picture (sizes 4 1 8 16) (nursery 0 0 0 absent [] []) (elder 0 absent (1 ∷ []) (int 10));
      trial = wants [] 4;
      answer = at 1 1 0 1 0 0 0;
      after = picture (sizes 4 1 8 16) (nursery 0 1 0 absent [] []) (elder 0 absent (1 ∷ 4 ∷ []) (int 10));
      roots = [];
    }
    -- its base is the number of allocations; the one already there is replaced, its counts not taken out
    ∷ record {
      before = picture usual (nursery 0 0 0 absent [] []) (elder 0 (present ((3, 1) ∷ [])) (0 ∷ 1 ∷ []) (ptr 0 3 0));
      trial = wants [] 4;
      answer = at 1 1 0 1 0 0 0;
      after = picture usual (nursery 0 1 0 absent [] []) (elder 0 (present ((3, 1) ∷ [])) (0 ∷ 4 ∷ []) []);
      roots = [];
    }
    -- a longer one by a shorter: nothing of it stays
    ∷ record {
      before = picture usual one_cell (elder 0 absent (0 ∷ 3 ∷ []) (int 10 ++ int 11 ++ int 12));
      trial = wants (ptr 0 0 0) 3;
      answer = at 0 0 0 1 1 0 0;
      after = picture usual (then_three 1) (elder 0 absent (0 ∷ 1 ∷ []) (int 7));
      roots = ptr 1 1 0;
    }
    -- what the call itself has moved, too: the number of allocations is still one
    ∷ record {
      before = picture usual (nursery 2 0 0 absent (1 ∷ 1 ∷ []) (int 7 ++ int 8)) (elder 0 absent (0 ∷ 1 ∷ []) (int 10));
      trial = wants (ptr 0 0 0 ++ ptr 0 1 0) 2;
      answer = at 0 0 0 1 2 0 0;
      after = picture usual (nursery 2 1 2 absent (2 ∷ []) (int 7 ++ int 8)) (elder 0 absent (0 ∷ 1 ∷ []) (int 8));
      roots = ptr 1 1 0 ++ ptr 1 1 0;
    }
    -- so with a move: of two (0, 1, 5) the one in elder 1, which is dropped, is counted out, and not the one in elder 2, which is
    -- kept and then replaced
    ∷ record {
      before = picture (sizes 4 3 4 16) one_cell (elder 0 (present ((1, 2) ∷ [])) (1 ∷ 1 ∷ 1 ∷ []) (int 10 ++ ptr 0 1 5 ++ ptr 0 1 5));
      trial = wants (ptr 1 0 0 ++ ptr 1 2 0 ++ ptr 0 0 0) 3;
      answer = at 0 0 0 1 3 1 3;
      after = picture (sizes 4 3 4 16) (then_three 3) (elder 1 (present ((1, 1) ∷ [])) (1 ∷ 0 ∷ 1 ∷ []) (int 10 ++ int 7));
      roots = ptr 1 0 0 ++ ptr 1 2 0 ++ ptr 1 2 0;
    }
    -- cells of dropped ones are counted out,
    ∷ record {
      before = picture (sizes 4 1 8 16) one_cell (elder 0 (present ((1, 2) ∷ [])) (1 ∷ []) (ptr 0 1 5));
      trial = wants (ptr 0 0 0) 3;
      answer = at 0 0 0 1 1 1 1;
      after = picture (sizes 4 1 8 16) (then_three 1) (elder 1 (present ((1, 1) ∷ [])) (1 ∷ []) (int 7));
      roots = ptr 1 0 0;
    }
    -- if there is a count,
    ∷ refuses 10 (picture (sizes 4 1 8 16) one_cell (elder 0 (present ((2, 1) ∷ [])) (1 ∷ []) (ptr 0 1 5))) (wants (ptr 0 0 0) 3)
    -- and on an absent barrier nothing is done
    ∷ record {
      before = picture (sizes 4 1 8 16) one_cell (elder 0 absent (1 ∷ []) (ptr 0 1 5));
      trial = wants (ptr 0 0 0) 3;
      answer = at 0 0 0 1 1 1 1;
      after = picture (sizes 4 1 8 16) (then_three 1) (elder 1 absent (1 ∷ []) (int 7));
      roots = ptr 1 0 0;
    }
    -- only the moved pointer changes, offset included: mask 0 moves (0, 0, 0), and the elder's (0, 0, 1) stays with its count
    ∷ record {
      before = picture usual one_cell (elder 0 (present ((0, 1) ∷ [])) (1 ∷ []) (ptr 0 0 1));
      trial = wants [] 3;
      answer = at 0 0 0 1 1 0 0;
      after = picture usual (then_three 1) (elder 0 (present ((0, 1) ∷ [])) (1 ∷ 1 ∷ []) (ptr 0 0 1 ++ int 7));
      roots = [];
    }
    -- a changed elder cell is counted out, if there is a count,
    ∷ refuses 10 (picture usual one_cell (elder 0 (present ((1, 1) ∷ [])) (1 ∷ []) (ptr 0 0 0))) (wants (ptr 0 0 0) 3)
    -- and on an absent barrier nothing is done
    ∷ record {
      before = picture usual one_cell (elder 0 absent (1 ∷ []) (ptr 0 0 0));
      trial = wants (ptr 0 0 0) 3;
      answer = at 0 0 0 1 1 0 0;
      after = picture usual (then_three 1) (elder 0 absent (1 ∷ 1 ∷ []) (ptr 1 1 0 ++ int 7));
      roots = ptr 1 1 0;
    }
    -- the walk goes on to its end, past R + S and R + C members: masks 1 and 2 start at six bases, whose cells lead to six pointers
    -- more, the last of these to another. Elder 4 is dropped, and 7 replaced
    ∷ record {
      before = picture (sizes 6 8 8 8) (nursery 5 0 0 (present ((1, 1) ∷ (2, 1) ∷ [])) (4 ∷ 0 ∷ 0 ∷ 0 ∷ 1 ∷ []) [])
          (elder 0 absent (replicate 8 1) (ptr 1 0 9 ++ ptr 1 1 1 ++ ptr 1 2 1 ++ ptr 1 3 1 ++ int 4 ++ ptr 1 5 1 ++ ptr 1 6 1 ++ ptr 1 0 0));
      trial = wants (ptr 0 4 0) 1;
      answer = at 0 0 0 1 1 1 14;
      after = picture (sizes 6 8 8 8) (nursery 1 1 1 absent (1 ∷ []) [])
          (elder 1 absent (1 ∷ 1 ∷ 1 ∷ 1 ∷ 0 ∷ 1 ∷ 1 ∷ 1 ∷ []) (ptr 1 0 9 ++ ptr 1 1 1 ++ ptr 1 2 1 ++ ptr 1 3 1 ++ ptr 1 5 1 ++ ptr 1 6 1));
      roots = ptr 1 7 0;
    }
    -- past cells of any number: the eleven (1, 0, 1) to (1, 0, 11) in elder 0, before the (1, 1, 0) there
    ∷ record {
      before = picture (sizes 4 1 4 16) one_cell (elder 0 absent (12 ∷ 1 ∷ []) (twelve_cells ++ ptr 1 1 1));
      trial = wants (ptr 1 0 0 ++ ptr 0 0 0) 3;
      answer = at 0 0 0 1 2 1 15;
      after = picture (sizes 4 1 4 16) (then_three 2) (elder 1 absent (12 ∷ 1 ∷ 1 ∷ []) (twelve_cells ++ ptr 1 1 1 ++ int 7));
      roots = ptr 1 0 0 ++ ptr 1 2 0;
    }
    -- and past roots of any number: nine that lead nowhere, then (0, 0, 0). It leads to the (0, 0, 1) in nursery 0 and, when the
    -- elder first collects, to the (1, 0, 1) in elder 0. Two copies, the first dropped before the second
    ∷ record {
      before = picture (sizes 2 1 1 1) (nursery 1 0 0 absent (1 ∷ []) (ptr 0 0 1)) (elder 0 absent (1 ∷ []) (ptr 1 0 1));
      trial = wants (nine_roots ++ ptr 0 0 0) 1;
      answer = at 0 0 0 1 11 2 21;
      after = picture (sizes 2 1 1 1) (nursery 1 1 11 (present ((0, 1) ∷ [])) (1 ∷ []) (ptr 1 0 0)) (elder 2 (present []) (1 ∷ []) (ptr 1 0 0));
      roots = nine_roots ++ ptr 1 0 0;
    }
    ∷ []

-- What an alloc logs: the members in order of entry, the roots' before those of masks; then the steps. T 1: the elder collects
-- before either move, and its mask 1 keeps what the first one brought
log_rows : List Row
log_rows =
    (let w = picture (sizes 4 1 3 4) (nursery 2 0 0 (present ((1, 1) ∷ [])) (1 ∷ 1 ∷ []) (int 7 ++ int 8)) (elder 0 (present ((1, 1) ∷ [])) (1 ∷ []) (int 10)) in
    record {
      before = w;
      trial = logs (ptr 1 0 0 ++ ptr 0 0 0) 2;
      answer = ok (
          (1 ∷ 0 ∷ 0 ∷ 0 ∷ 0 ∷ 0 ∷ 0 ∷ 1 ∷ 0 ∷ [])
          ++ (1 ∷ 0 ∷ 0 ∷ 0 ∷ 0 ∷ 0 ∷ []) ++ (0 ∷ 1 ∷ 0 ∷ 0 ∷ int 10) ++ (1 ∷ 1 ∷ 0 ∷ 0 ∷ int 10)
          ++ (0 ∷ 0 ∷ 0 ∷ 1 ∷ []) ++ (1 ∷ 1 ∷ 0 ∷ 0 ∷ int 10) ++ (1 ∷ 1 ∷ 1 ∷ 0 ∷ int 10 ++ int 7)
          ++ (1 ∷ 0 ∷ 0 ∷ 0 ∷ 0 ∷ 0 ∷ 1 ∷ 1 ∷ 0 ∷ []) ++ (1 ∷ 1 ∷ 1 ∷ 0 ∷ int 10 ++ int 7) ++ (2 ∷ 1 ∷ 1 ∷ 0 ∷ int 10 ++ int 7)
          ++ (0 ∷ 1 ∷ 0 ∷ 2 ∷ []) ++ (2 ∷ 1 ∷ 1 ∷ 0 ∷ int 10 ++ int 7) ++ (2 ∷ 1 ∷ 1 ∷ 1 ∷ int 10 ++ int 7 ++ int 8)
          );
      after = w;
      roots = [];
    }) ∷ []

-- 7. Is the new elder base below S, and are its cells together with those still held at most C?
room_rows : List Row
room_rows =
    -- the last slot, and none
    record {
      before = clean (sizes 4 8 1 16);
      trial = wants [] 4;
      answer = at 1 0 0 1 0 0 0;
      after = picture (sizes 4 8 1 16) (nursery 0 1 0 absent [] []) (elder 0 absent (4 ∷ []) []);
      roots = [];
    }
    ∷ refuses 7 (picture (sizes 4 8 1 16) (nursery 0 1 0 absent [] []) (elder 0 absent (4 ∷ []) [])) (wants [] 4)
    -- all of C, and one cell more
    ∷ record {
      before = picture usual (nursery 0 0 0 absent [] []) (elder 0 absent (12 ∷ []) []);
      trial = wants [] 4;
      answer = at 1 1 0 1 0 0 0;
      after = picture usual (nursery 0 1 0 absent [] []) (elder 0 absent (12 ∷ 4 ∷ []) []);
      roots = [];
    }
    ∷ refuses 7 (picture usual (nursery 0 0 0 absent [] []) (elder 0 absent (12 ∷ []) [])) (wants [] 5)
    -- room of replaced and dropped allocations reused: C 3, elder 1 dropped, elder 2 replaced by two cells
    ∷ record {
      before = picture (sizes 4 3 4 3) (nursery 2 0 0 absent (2 ∷ []) (int 7 ++ int 8)) (elder 0 absent (1 ∷ 1 ∷ 1 ∷ []) (int 10 ++ int 11 ++ int 12));
      trial = wants (ptr 1 0 0 ++ ptr 1 2 0 ++ ptr 0 0 0) 2;
      answer = at 0 0 0 1 3 1 3;
      after = picture (sizes 4 3 4 3) (nursery 2 1 3 absent (2 ∷ []) (int 7 ++ int 8)) (elder 1 absent (1 ∷ 0 ∷ 2 ∷ []) (int 10 ++ int 7 ++ int 8));
      roots = ptr 1 0 0 ++ ptr 1 2 0 ++ ptr 1 2 0;
    }
    -- by three
    ∷ refuses 7 (picture (sizes 4 3 4 3) (nursery 3 0 0 absent (3 ∷ []) (int 7 ++ int 8 ++ int 9)) (elder 0 absent (1 ∷ 1 ∷ 1 ∷ []) (int 10 ++ int 11 ++ int 12))) (wants (ptr 1 0 0 ++ ptr 1 2 0 ++ ptr 0 0 0) 2)
    -- a second move that has no slot: the first leaves no trace
    ∷ refuses 7 (picture (sizes 4 8 1 16) (nursery 2 0 0 absent (1 ∷ 1 ∷ []) (int 7 ++ int 8)) unused) (wants (ptr 0 0 0 ++ ptr 0 1 0) 2)
    -- asked of the amount once all are moved: the elder collection before the move makes room
    ∷ record {
      before = picture (sizes 4 1 8 5) one_cell (elder 0 absent (4 ∷ []) []);
      trial = wants (ptr 0 0 0) 4;
      answer = at 1 1 0 1 1 1 1;
      after = picture (sizes 4 1 8 5) (nursery 0 1 1 absent [] (int 7)) (elder 1 absent (1 ∷ 4 ∷ []) (int 7));
      roots = ptr 1 0 0;
    }
    ∷ refuses 6 (clean usual) (wants (ptr 0 1 0) 17)
    -- after 6, and before the cells are counted in
    ∷ refuses 6 (picture (sizes 4 8 0 0) (nursery 1 0 0 absent (1 ∷ []) (ptr 0 2 0)) unused) (wants (ptr 0 0 0) 3)
    ∷ refuses 7 (picture (sizes 4 8 0 0) (nursery 1 0 0 absent (1 ∷ []) (ptr 0 0 0)) (elder 0 (present ((0, full) ∷ [])) [] [])) (wants (ptr 0 0 0) 3)
    -- a new allocation's 7 comes before the pointers change, where the elder's (0, 0, 0) would lack its count
    ∷ refuses 7 (picture usual one_cell (elder 0 (present ((1, 1) ∷ [])) (1 ∷ []) (ptr 0 0 0))) (wants (ptr 0 0 0) 15)
    ∷ []

-- Access

-- two nursery cells allocated, a stale (1, 389, 0) at the cursor; elder 1 of two cells. 389 mod 256 is 133
accessed : List ℕ
accessed = picture usual (nursery 2 0 0 (present ((133, 1) ∷ [])) (2 ∷ []) (ptr 1 389 0 ++ int 8 ++ ptr 1 389 0 ++ int 10)) (elder 0 (present ((133, 1) ∷ [])) (0 ∷ 2 ∷ []) (int 20 ++ ptr 0 389 0))

-- a write, and the barrier and cells of the nursery afterwards
into_nursery : Ptr → List ℕ → Counts → List ℕ → Row
into_nursery p value bar cells = record {
  before = accessed;
  trial = puts p value;
  answer = ok [];
  after = picture usual (nursery 2 0 0 bar (2 ∷ []) cells) (elder 0 (present ((133, 1) ∷ [])) (0 ∷ 2 ∷ []) (int 20 ++ ptr 0 389 0));
  roots = [];
}

-- or of the elder
into_elder : Ptr → List ℕ → Counts → List ℕ → Row
into_elder p value bar cells = record {
  before = accessed;
  trial = puts p value;
  answer = ok [];
  after = picture usual (nursery 2 0 0 (present ((133, 1) ∷ [])) (2 ∷ []) (ptr 1 389 0 ++ int 8 ++ ptr 1 389 0 ++ int 10)) (elder 0 bar (0 ∷ 2 ∷ []) cells);
  roots = [];
}

access_rows : List Row
access_rows =
    -- heap 0: base read as i64, plus offset, in 0 to N − 1, allocated or not
    shows accessed (to 0 1 0) (int 8)
    ∷ shows accessed (to 0 0 3) (int 10)
    ∷ shows accessed (to 0 4 minus1) (int 10)
    ∷ refuses 8 accessed (looks (to 0 4 0))
    ∷ refuses 8 accessed (looks (to 0 0 minus1))
    ∷ refuses 8 accessed (looks (to 0 least greatest))
    ∷ refuses 8 accessed (puts (to 0 4 0) (int 7))
    -- 9 before the range of 8, at either end of i64
    ∷ refuses 8 accessed (looks (to 0 greatest 0))
    ∷ refuses 8 accessed (looks (to 0 least 0))
    ∷ refuses 9 accessed (looks (to 0 least minus1))
    ∷ refuses 9 accessed (puts (to 0 greatest 1) (int 7))
    -- heap 1: the base allocated, the offset within it; 9 is not asked
    ∷ shows accessed (to 1 1 0) (int 20)
    ∷ shows accessed (to 1 1 1) (ptr 0 389 0)
    ∷ refuses 8 accessed (looks (to 1 1 2))
    ∷ refuses 8 accessed (looks (to 1 1 0x1_0000_0000))
    ∷ refuses 8 accessed (looks (to 1 0x1_0000_0001 0))
    ∷ refuses 8 accessed (looks (to 1 1 minus1))
    ∷ refuses 8 accessed (looks (to 1 0 0))
    ∷ refuses 8 accessed (looks (to 1 8 0))
    ∷ refuses 8 accessed (looks (to 1 greatest 1))
    ∷ refuses 8 accessed (puts (to 1 1 2) (int 7))
    ∷ refuses 8 accessed (puts (to 1 0 0) (int 7))
    ∷ refuses 8 accessed (puts (to 1 greatest 1) (int 7))
    -- any other heap: 8
    ∷ refuses 8 accessed (looks (to 2 1 0))
    ∷ refuses 8 accessed (looks (to 2 greatest 1))
    ∷ refuses 8 accessed (puts (to 2 1 0) (int 7))
    -- a write to the nursery counts the old cell out below the cursor,
    ∷ into_nursery (to 0 0 0) (int 7) (present []) (int 7 ++ int 8 ++ ptr 1 389 0 ++ int 10)
    -- wherever it stands in its allocation,
    ∷ record {
      before = picture usual (nursery 2 0 0 (present ((5, 1) ∷ [])) (2 ∷ []) (int 7 ++ ptr 1 5 0)) unused;
      trial = puts (to 0 0 1) (int 8);
      answer = ok [];
      after = picture usual (nursery 2 0 0 (present []) (2 ∷ []) (int 7 ++ int 8)) unused;
      roots = [];
    }
    -- and not at the cursor
    ∷ into_nursery (to 0 0 2) (int 7) (present ((133, 1) ∷ [])) (ptr 1 389 0 ++ int 8 ++ int 7 ++ int 10)
    -- it counts the new value in, on either side of the cursor,
    ∷ into_nursery (to 0 0 0) (ptr 1 6 0) (present ((6, 1) ∷ [])) (ptr 1 6 0 ++ int 8 ++ ptr 1 389 0 ++ int 10)
    ∷ into_nursery (to 0 0 2) (ptr 1 6 0) (present ((6, 1) ∷ (133, 1) ∷ [])) (ptr 1 389 0 ++ int 8 ++ ptr 1 6 0 ++ int 10)
    -- at base mod 256,
    ∷ into_nursery (to 0 0 1) (ptr 1 133 0) (present ((133, 2) ∷ [])) (ptr 1 389 0 ++ ptr 1 133 0 ++ ptr 1 389 0 ++ int 10)
    ∷ into_nursery (to 0 0 1) (ptr 1 261 0) (present ((5, 1) ∷ (133, 1) ∷ [])) (ptr 1 389 0 ++ ptr 1 261 0 ++ ptr 1 389 0 ++ int 10)
    ∷ into_nursery (to 0 0 1) (ptr 1 minus1 0) (present ((133, 1) ∷ (255, 1) ∷ [])) (ptr 1 389 0 ++ ptr 1 minus1 0 ++ ptr 1 389 0 ++ int 10)
    -- also where the old cell, not counted, is the same pointer,
    ∷ record {
      before = picture usual (nursery 2 1 0 absent (2 ∷ []) (ptr 1 5 0)) unused;
      trial = puts (to 0 0 0) (ptr 1 5 0);
      answer = ok [];
      after = picture usual (nursery 2 1 0 (present ((5, 1) ∷ [])) (2 ∷ []) (ptr 1 5 0)) unused;
      roots = [];
    }
    -- and only a pointer to the other heap
    ∷ into_nursery (to 0 0 1) (ptr 0 6 0) (present ((133, 1) ∷ [])) (ptr 1 389 0 ++ ptr 0 6 0 ++ ptr 1 389 0 ++ int 10)
    -- a write to the elder always counts the old cell out, then the new value in
    ∷ into_elder (to 1 1 1) (int 7) (present []) (int 20 ++ int 7)
    ∷ into_elder (to 1 1 1) (ptr 0 4 0) (present ((4, 1) ∷ [])) (int 20 ++ ptr 0 4 0)
    ∷ into_elder (to 1 1 0) (ptr 0 133 0) (present ((133, 2) ∷ [])) (ptr 0 133 0 ++ ptr 0 389 0)
    ∷ into_elder (to 1 1 0) (ptr 1 6 0) (present ((133, 1) ∷ [])) (ptr 1 6 0 ++ ptr 0 389 0)
    -- and either only if it points to the other heap
    ∷ record {
      before = picture usual (nursery 0 0 0 absent [] []) (elder 0 (present ((4, 1) ∷ [])) (1 ∷ []) (ptr 1 4 0));
      trial = puts (to 1 0 0) (ptr 1 6 0);
      answer = ok [];
      after = picture usual (nursery 0 0 0 absent [] []) (elder 0 (present ((4, 1) ∷ [])) (1 ∷ []) (ptr 1 6 0));
      roots = [];
    }
    -- counting out asks for a count, and does nothing on an absent barrier
    ∷ refuses 10 (picture usual (nursery 0 0 0 absent [] []) (elder 0 (present ((4, 1) ∷ [])) (1 ∷ []) (ptr 0 3 0))) (puts (to 1 0 0) (int 7))
    ∷ record {
      before = picture usual (nursery 0 0 0 absent [] []) (elder 0 absent (1 ∷ []) (ptr 0 3 0));
      trial = puts (to 1 0 0) (int 7);
      answer = ok [];
      after = picture usual (nursery 0 0 0 absent [] []) (elder 0 absent (1 ∷ []) (int 7));
      roots = [];
    }
    ∷ []

-- 11. Does a count or counter stay in bounds?
limit_rows : List Row
limit_rows =
    -- nursery collections: only a collection counts
    record {
      before = picture usual (nursery 1 full full absent (1 ∷ []) []) (elder full absent [] []);
      trial = wants [] 2;
      answer = at 0 1 0 0 0 0 0;
      after = picture usual (nursery 3 full full absent (1 ∷ 2 ∷ []) []) (elder full absent [] []);
      roots = [];
    }
    ∷ refuses 11 (picture usual (nursery 1 full 0 absent (1 ∷ []) []) unused) (wants [] 3)
    ∷ record {
      before = picture usual (nursery 1 (full - 1) 0 absent (1 ∷ []) []) unused;
      trial = wants [] 3;
      answer = at 0 0 0 1 0 0 0;
      after = picture usual (nursery 3 full 0 absent (3 ∷ []) []) unused;
      roots = [];
    }
    -- promotions rise by the members' number, none here,
    ∷ record {
      before = picture usual (nursery 1 0 full absent (1 ∷ []) []) unused;
      trial = wants [] 3;
      answer = at 0 0 0 1 0 0 0;
      after = picture usual (nursery 3 1 full absent (3 ∷ []) []) unused;
      roots = [];
    }
    -- then one, own or foreign
    ∷ refuses 11 (picture usual (nursery 1 0 full absent (1 ∷ []) []) unused) (wants (ptr 0 0 0) 3)
    ∷ refuses 11 (picture usual (nursery 1 0 full absent (1 ∷ []) []) unused) (wants (ptr 1 3 0) 3)
    ∷ refuses 11 (picture usual (nursery 1 0 (full - 1) absent (1 ∷ []) []) unused) (wants (ptr 1 3 0 ++ ptr 0 0 0) 3)
    ∷ record {
      before = picture usual (nursery 1 0 (full - 1) absent (1 ∷ []) (int 7)) unused;
      trial = wants (ptr 0 0 0) 3;
      answer = at 0 0 0 1 1 0 0;
      after = picture usual (nursery 3 1 full absent (3 ∷ []) (int 7)) (elder 0 absent (1 ∷ []) (int 7));
      roots = ptr 1 0 0;
    }
    -- collections counter before 6, promotions after
    ∷ refuses 11 (picture usual (nursery 1 full 0 absent (1 ∷ []) []) unused) (wants (ptr 0 1 0) 3)
    ∷ refuses 6 (picture usual (nursery 1 0 full absent (1 ∷ []) []) unused) (wants (ptr 0 1 0) 3)
    -- promotions before 7
    ∷ refuses 11 (picture (sizes 4 8 0 0) (nursery 1 0 full absent (1 ∷ []) []) unused) (wants (ptr 0 0 0) 3)
    -- elder collections
    ∷ refuses 11 (picture (sizes 4 1 8 16) (nursery 1 0 0 absent (1 ∷ []) []) (elder full absent (1 ∷ []) (int 10))) (wants (ptr 0 0 0) 3)
    ∷ record {
      before = picture (sizes 4 1 8 16) one_cell (elder (full - 1) absent (1 ∷ []) (int 10));
      trial = wants (ptr 0 0 0) 3;
      answer = at 0 0 0 1 1 1 1;
      after = picture (sizes 4 1 8 16) (then_three 1) (elder full absent (1 ∷ []) (int 7));
      roots = ptr 1 0 0;
    }
    -- asked only where the elder is collected
    ∷ record {
      before = picture usual one_cell (elder full absent [] []);
      trial = wants (ptr 0 0 0) 3;
      answer = at 0 0 0 1 1 0 0;
      after = picture usual (then_three 1) (elder full absent (1 ∷ []) (int 7));
      roots = ptr 1 0 0;
    }
    -- before 10 of what is dropped, and before 7
    ∷ refuses 11 (picture (sizes 4 1 8 16) (nursery 1 0 0 absent (1 ∷ []) []) (elder full (present ((2, 1) ∷ [])) (1 ∷ []) (ptr 0 1 5))) (wants (ptr 0 0 0) 3)
    ∷ refuses 11 (picture (sizes 4 1 1 16) (nursery 1 0 0 absent (1 ∷ []) []) (elder full absent (1 ∷ []) (int 10))) (wants (ptr 1 0 0 ++ ptr 0 0 0) 3)
    ∷ refuses 7 (picture (sizes 4 1 1 16) (nursery 1 0 0 absent (1 ∷ []) []) (elder 0 absent (1 ∷ []) (int 10))) (wants (ptr 1 0 0 ++ ptr 0 0 0) 3)
    -- cells moved in are counted in
    ∷ refuses 11 (picture usual (nursery 1 0 0 absent (1 ∷ []) (ptr 0 0 0)) (elder 0 (present ((0, full) ∷ [])) [] [])) (wants (ptr 0 0 0) 3)
    ∷ record {
      before = picture usual (nursery 1 0 0 absent (1 ∷ []) (ptr 0 0 0)) (elder 0 (present ((0, full - 1) ∷ [])) [] []);
      trial = wants (ptr 0 0 0) 3;
      answer = at 0 0 0 1 1 0 0;
      after = picture usual (nursery 3 1 1 (present ((0, 1) ∷ [])) (3 ∷ []) (ptr 1 0 0)) (elder 0 (present ((0, full - 1) ∷ [])) (1 ∷ []) (ptr 1 0 0));
      roots = ptr 1 0 0;
    }
    -- writes: a count up to its bound, and not beyond
    ∷ record {
      before = picture usual (nursery 2 0 0 (present ((5, full - 1) ∷ [])) (2 ∷ []) []) unused;
      trial = puts (to 0 0 0) (ptr 1 5 0);
      answer = ok [];
      after = picture usual (nursery 2 0 0 (present ((5, full) ∷ [])) (2 ∷ []) (ptr 1 5 0)) unused;
      roots = [];
    }
    ∷ refuses 11 (picture usual (nursery 2 0 0 (present ((5, full) ∷ [])) (2 ∷ []) (ptr 1 5 0)) unused) (puts (to 0 0 1) (ptr 1 5 0))
    ∷ refuses 11 (picture usual (nursery 0 0 0 absent [] []) (elder 0 (present ((3, full) ∷ [])) (2 ∷ []) (ptr 0 3 0))) (puts (to 1 0 1) (ptr 0 3 0))
    -- a full count that the old cell first lowers takes the new one; at the cursor nothing lowers it
    ∷ record {
      before = picture usual (nursery 2 0 0 (present ((5, full) ∷ [])) (2 ∷ []) (ptr 1 5 0)) unused;
      trial = puts (to 0 0 0) (ptr 1 5 9);
      answer = ok [];
      after = picture usual (nursery 2 0 0 (present ((5, full) ∷ [])) (2 ∷ []) (ptr 1 5 9)) unused;
      roots = [];
    }
    ∷ refuses 11 (picture usual (nursery 0 0 0 (present ((5, full) ∷ [])) [] (ptr 1 5 0)) unused) (puts (to 0 0 0) (ptr 1 5 9))
    ∷ record {
      before = picture usual (nursery 0 0 0 absent [] []) (elder 0 (present ((3, full) ∷ [])) (1 ∷ []) (ptr 0 3 0));
      trial = puts (to 1 0 0) (ptr 0 3 9);
      answer = ok [];
      after = picture usual (nursery 0 0 0 absent [] []) (elder 0 (present ((3, full) ∷ [])) (1 ∷ []) (ptr 0 3 9));
      roots = [];
    }
    -- old out (10), then new in (11)
    ∷ refuses 10 (picture usual (nursery 1 0 0 (present ((6, full) ∷ [])) (1 ∷ []) (ptr 1 5 0)) unused) (puts (to 0 0 0) (ptr 1 6 0))
    ∷ []

-- 1. Are the sizes within bounds, and is the image's length theirs?
size_rows : List Row
size_rows =
    -- a fresh heap has zero everywhere after the first four words, whatever stood there
    record { before = replicate 594 7; trial = makes usual; answer = ok []; after = clean usual; roots = [] }
    ∷ record { before = replicate 547 7; trial = makes (sizes 4 1 3 2); answer = ok []; after = clean (sizes 4 1 3 2); roots = [] }
    ∷ refuses 1 (replicate 593 7) (makes usual)
    ∷ refuses 1 (replicate 595 7) (makes usual)
    -- each size at its bound, asked of the sizes alone: the image would have 213,514 words
    ∷ record { before = []; trial = bounds (sizes 2048 8192 8192 65536); answer = ok []; after = []; roots = [] }
    -- each above its bound
    ∷ refuses 1 (replicate 8718 7) (makes (sizes 2049 0 0 0))
    ∷ refuses 1 (replicate 522 7) (makes (sizes 0 8193 0 0))
    ∷ refuses 1 (replicate 8715 7) (makes (sizes 0 0 8193 0))
    ∷ refuses 1 [] (bounds (sizes 0 0 0 65537))
    -- the same asked of an image
    ∷ refuses 1 (clean (sizes 4 8193 8 16)) (puts (to 0 0 0) (int 7))
    ∷ refuses 1 (clean (sizes 4 8193 8 16)) (wants [] 1)
    ∷ refuses 1 (clean (sizes 4 0x1_0000_0008 8 16)) (looks (to 0 0 0))
    ∷ refuses 1 (take 593 (clean usual)) reports
    ∷ refuses 1 (clean usual ++ 0 ∷ []) (looks (to 0 0 0))
    -- an image shorter than its four size words
    ∷ refuses 1 [] (looks (to 0 0 0))
    ∷ refuses 1 (0 ∷ 0 ∷ 0 ∷ []) (wants [] 1)
    -- no size at all: nothing to access, no room
    ∷ refuses 8 (clean (sizes 0 0 0 0)) (looks (to 0 0 0))
    ∷ refuses 7 (clean (sizes 0 0 0 0)) (wants [] 1)
    ∷ []

-- 2. Is the image well formed?

-- An image with a cell of each kind. Its words: 0 sizes, 4 cursor, 5 counters, 8 flags, 10 and 266 counts, 522 nursery
-- lengths, 530 elder lengths, 534 nursery cells, 558 elder cells, 582 end.
rich : List ℕ
rich =
    picture (sizes 8 8 4 8)
    (nursery 7 2 4 (present ((5, 2) ∷ (255, full) ∷ [])) (1 ∷ 2 ∷ 0 ∷ 4 ∷ []) (replicate 3 0 ++ int minus1 ++ bool 1 ++ float 0x7FF0_0000_0000_0001 ++ char 0xD7FF ++ char 0xE000 ++ char 0x10FFFF ++ ptr 1 5 minus1))
    (elder 8 (present ((0, 1) ∷ (9, 5) ∷ [])) (2 ∷ 0 ∷ 1 ∷ []) (ptr 0 0 1 ++ ptr 1 minus1 least ++ bool 0))

-- one word changed, and the image is refused
spoilt : ℕ → ℕ → Row
spoilt position word = refuses 2 (changed ((position, word) ∷ []) rich) (looks (to 0 0 0))

form_rows : List Row
form_rows =
    -- it is well formed, and a write leaves all other words
    record {
      before = rich;
      trial = puts (to 0 0 1) (int 7);
      answer = ok [];
      after = changed ((538, 7) ∷ []) rich;
      roots = [];
    }
    ∷ shows rich (to 0 0 7) (ptr 1 5 minus1)
    ∷ shows rich (to 1 0 1) (ptr 1 minus1 least)
    ∷ shows rich (to 1 2 0) (bool 0)
    -- the cursor is below N, or N is 0
    ∷ refuses 2 (picture usual (nursery 4 0 0 absent (4 ∷ []) []) unused) (looks (to 0 0 0))
    ∷ refuses 2 (picture (sizes 0 8 8 16) (nursery 1 0 0 absent [] []) unused) (looks (to 0 0 0))
    ∷ spoilt 4 6
    ∷ spoilt 4 8
    -- each counter in bounds
    ∷ spoilt 5 (suc full)
    ∷ spoilt 6 (suc full)
    ∷ spoilt 7 (suc full)
    -- a flag is 0 or 1, a barrier not present has only zero counts, each count in bounds
    ∷ spoilt 8 0
    ∷ spoilt 8 2
    ∷ spoilt 9 0
    ∷ spoilt 9 2
    ∷ spoilt 10 (suc full)
    ∷ spoilt 521 (suc full)
    ∷ shows (picture usual (nursery 0 0 0 (present []) [] (int 7)) (elder 0 (present []) [] [])) (to 0 0 0) (int 7)
    ∷ refuses 2 (changed ((265, 1) ∷ []) (clean usual)) (wants [] 1)
    ∷ refuses 2 (changed ((521, 1) ∷ []) (clean usual)) reports
    -- allocations fill 0 to cursor without gaps: gaps, a length inside an allocation, one behind the cursor, too short, too long
    ∷ refuses 2 (picture usual (nursery 2 0 0 absent (1 ∷ 0 ∷ 1 ∷ []) []) unused) (looks (to 0 0 0))
    ∷ refuses 2 (picture usual (nursery 3 0 0 absent (1 ∷ 0 ∷ 1 ∷ []) []) unused) (looks (to 0 0 0))
    ∷ refuses 2 (picture usual (nursery 1 0 0 absent (1 ∷ 0 ∷ 1 ∷ []) []) unused) (looks (to 0 0 0))
    ∷ spoilt 522 0
    ∷ spoilt 523 0
    ∷ spoilt 523 1
    ∷ spoilt 524 1
    ∷ spoilt 529 1
    ∷ spoilt 525 3
    ∷ spoilt 525 5
    ∷ spoilt 522 least
    -- elder lengths: more cells than C, fewer than there are
    ∷ spoilt 531 6
    ∷ spoilt 530 least
    ∷ spoilt 530 1
    -- each call asks all of it
    ∷ refuses 2 (picture usual (nursery 0 0 0 absent [] (bool 2)) unused) (puts (to 0 0 1) (int 7))
    ∷ refuses 2 (picture usual (nursery 0 0 0 absent [] (bool 2)) unused) (wants [] 1)
    ∷ refuses 2 (picture usual (nursery 0 0 0 absent [] (bool 2)) unused) reports
    -- the words behind the elder's cells are zero
    ∷ spoilt 567 1
    ∷ spoilt 568 1
    ∷ spoilt 569 1
    ∷ spoilt 581 1
    ∷ []

-- 2 and 3: valid cells

-- as nursery cell and elder cell, as root, as value
accepted : List ℕ → List Row
accepted cell =
    shows (picture usual (nursery 0 0 0 absent [] cell) unused) (to 0 0 0) cell
    ∷ shows (picture usual (nursery 0 0 0 absent [] []) (elder 0 absent (1 ∷ []) cell)) (to 1 0 0) cell
    ∷ record {
      before = clean usual;
      trial = wants cell 1;
      answer = at 0 0 0 0 0 0 0;
      after = picture usual (nursery 1 0 0 absent (1 ∷ []) []) unused;
      roots = cell;
    }
    ∷ record {
      before = clean usual;
      trial = puts (to 0 0 0) cell;
      answer = ok [];
      after = picture usual (nursery 0 0 0 absent [] cell) unused;
      roots = [];
    }
    ∷ []

rejected : List ℕ → List Row
rejected cell =
    refuses 2 (picture usual (nursery 0 0 0 absent [] cell) unused) (looks (to 0 0 0))
    ∷ refuses 2 (picture usual (nursery 0 0 0 absent [] []) (elder 0 absent (1 ∷ []) cell)) (looks (to 1 0 0))
    ∷ refuses 3 (clean usual) (wants cell 1)
    ∷ refuses 3 (clean usual) (puts (to 0 0 0) cell)
    ∷ []

cell_rows : List Row
cell_rows =
    -- Uninitialized
    accepted (0 ∷ 0 ∷ 0 ∷ [])
    ++ rejected (0 ∷ 1 ∷ 0 ∷ [])
    ++ rejected (0 ∷ 0 ∷ 1 ∷ [])
    ++ rejected (256 ∷ 0 ∷ 0 ∷ [])
    -- Int
    ++ accepted (1 ∷ minus1 ∷ 0 ∷ [])
    ++ rejected (1 ∷ 7 ∷ 1 ∷ [])
    ++ rejected (257 ∷ 7 ∷ 0 ∷ [])
    ++ rejected (0x8000_0000_0000_0001 ∷ 7 ∷ 0 ∷ [])
    -- Bool
    ++ accepted (2 ∷ 0 ∷ 0 ∷ [])
    ++ accepted (2 ∷ 1 ∷ 0 ∷ [])
    ++ rejected (2 ∷ 2 ∷ 0 ∷ [])
    ++ rejected (2 ∷ 256 ∷ 0 ∷ [])
    ++ rejected (2 ∷ 1 ∷ 1 ∷ [])
    ++ rejected (258 ∷ 1 ∷ 0 ∷ [])
    -- Float, also −0 and a NaN with payload and sign
    ++ accepted (3 ∷ least ∷ 0 ∷ [])
    ++ accepted (3 ∷ minus1 ∷ 0 ∷ [])
    ++ rejected (3 ∷ 0 ∷ 1 ∷ [])
    ++ rejected (259 ∷ 0 ∷ 0 ∷ [])
    -- Char
    ++ accepted (4 ∷ 0 ∷ 0 ∷ [])
    ++ rejected (4 ∷ 0x1_0000_0041 ∷ 0 ∷ [])
    ++ accepted (4 ∷ 0xD7FF ∷ 0 ∷ [])
    ++ rejected (4 ∷ 0xD800 ∷ 0 ∷ [])
    ++ rejected (4 ∷ 0xDFFF ∷ 0 ∷ [])
    ++ accepted (4 ∷ 0xE000 ∷ 0 ∷ [])
    ++ accepted (4 ∷ 0x10FFFF ∷ 0 ∷ [])
    ++ rejected (4 ∷ 0x110000 ∷ 0 ∷ [])
    ++ rejected (4 ∷ 65 ∷ 1 ∷ [])
    ++ rejected (260 ∷ 65 ∷ 0 ∷ [])
    -- Pointer: heap 0 or 1, the bytes above it zero
    ++ accepted (5 ∷ minus1 ∷ minus1 ∷ [])
    ++ rejected (517 ∷ 0 ∷ 0 ∷ [])
    ++ rejected (65541 ∷ 0 ∷ 0 ∷ [])
    ++ rejected (65797 ∷ 0 ∷ 0 ∷ [])
    -- no other kind
    ++ rejected (6 ∷ 0 ∷ 0 ∷ [])
    ++ rejected (255 ∷ 0 ∷ 0 ∷ [])
    -- each of several
    ++ record { before = []; trial = judges (int 7 ++ bool 1); answer = ok []; after = []; roots = [] }
    ∷ refuses 3 [] (judges (int 7 ++ bool 2))
    ∷ refuses 3 [] (judges (bool 2 ++ int 7))
    ∷ []

-- 3, 4 and 5, and the order of 1 to 5
asked_rows : List Row
asked_rows =
    -- whole cells
    refuses 3 (clean usual) (wants (0 ∷ []) 1)
    ∷ refuses 3 (clean usual) (wants (0 ∷ 0 ∷ []) 1)
    ∷ refuses 3 (clean usual) (wants (0 ∷ 0 ∷ 0 ∷ 0 ∷ []) 1)
    ∷ refuses 3 (clean usual) (wants (int 7 ++ bool 2) 1)
    -- a value is one cell
    ∷ refuses 3 (clean usual) (puts (to 0 0 0) [])
    ∷ refuses 3 (clean usual) (puts (to 0 0 0) (1 ∷ 7 ∷ []))
    ∷ refuses 3 (clean usual) (puts (to 0 0 0) (int 7 ++ int 8))
    -- scratch of 594 + 4 × (2 + 2 × 4) + 3 × (2 + 8 + 16) words, and of one less
    ∷ record {
      before = clean usual;
      trial = calls (allocs (int 7 ++ int 8) 712 1);
      answer = at 0 0 0 0 0 0 0;
      after = picture usual (nursery 1 0 0 absent (1 ∷ []) []) unused;
      roots = int 7 ++ int 8;
    }
    ∷ refuses 4 (clean usual) (calls (allocs (int 7 ++ int 8) 711 1))
    -- of 551 + 4 × (0 + 2 × 5) + 3 × (0 + 3 + 2)
    ∷ record {
      before = clean (sizes 5 8 3 2);
      trial = calls (allocs [] 606 1);
      answer = at 0 0 0 0 0 0 0;
      after = picture (sizes 5 8 3 2) (nursery 1 0 0 absent (1 ∷ []) []) unused;
      roots = [];
    }
    ∷ refuses 4 (clean (sizes 5 8 3 2)) (calls (allocs [] 605 1))
    -- the amount is an i64
    ∷ refuses 5 (clean usual) (wants [] least)
    ∷ refuses 7 (clean usual) (wants [] 0x1_0000_0001)
    ∷ refuses 7 (clean usual) (wants [] greatest)
    -- 1, then 2, then 3, then 4, then 5, then the collection's questions
    ∷ refuses 1 (take 593 (changed ((4, 4) ∷ []) (clean usual))) (calls (allocs (0 ∷ []) 0 0))
    ∷ refuses 2 (changed ((4, 4) ∷ []) (clean usual)) (calls (allocs (0 ∷ []) 0 0))
    ∷ refuses 3 (clean usual) (calls (allocs (0 ∷ []) 0 0))
    ∷ refuses 4 (clean usual) (calls (allocs (ptr 0 1 0) 0 0))
    ∷ refuses 5 (clean usual) (wants (ptr 0 1 0) 0)
    -- a write asks 3 of its value before 8 and 9 of its pointer
    ∷ refuses 3 (clean usual) (puts (to 2 0 0) (bool 2))
    ∷ refuses 3 (clean usual) (puts (to 0 greatest 0) (bool 2))
    ∷ refuses 3 (clean usual) (puts (to 0 greatest 1) (bool 2))
    ∷ refuses 3 (clean usual) (puts (to 1 0 0) (bool 2))
    ∷ refuses 2 (changed ((4, 4) ∷ []) (clean usual)) (puts (to 2 0 0) (bool 2))
    ∷ refuses 1 (take 593 (clean usual)) (puts (to 2 0 0) (bool 2))
    ∷ []

-- Report
report_rows : List Row
report_rows =
    -- its numbers first; then nursery cells stay, and of the elder the counts that no cell takes out
    record {
      before = rich;
      trial = reports;
      answer = ok (2 ∷ 3 ∷ 7 ∷ 4294967297 ∷ 1 ∷ 4 ∷ 8 ∷ 2 ∷ 3 ∷ 6 ∷ 0 ∷ []);
      after = picture (sizes 8 8 4 8)
          (nursery 0 3 4 absent [] (replicate 3 0 ++ int minus1 ++ bool 1 ++ float 0x7FF0_0000_0000_0001 ++ char 0xD7FF ++ char 0xE000 ++ char 0x10FFFF ++ ptr 1 5 minus1))
          (elder 9 (present ((9, 5) ∷ [])) [] []);
      roots = [];
    }
    -- without roots or masks nothing is a member: no promotion, no 6
    ∷ record {
      before = picture usual (nursery 1 0 full (present ((0, 1) ∷ [])) (1 ∷ []) (ptr 0 2 0)) (elder 0 (present ((0, 1) ∷ [])) (1 ∷ []) (ptr 1 0 0));
      trial = reports;
      answer = ok (0 ∷ 1 ∷ 1 ∷ 1 ∷ 3 ∷ full ∷ 0 ∷ 1 ∷ 1 ∷ 1 ∷ 0 ∷ []);
      after = picture usual (nursery 0 1 full absent [] (ptr 0 2 0)) (elder 1 (present ((0, 1) ∷ [])) [] []);
      roots = [];
    }
    -- 11 for the nursery's counter, 11 for the elder's, then 10
    ∷ refuses 11 (picture usual (nursery 0 full 0 absent [] []) unused) reports
    ∷ refuses 11 (picture usual (nursery 0 full 0 absent [] []) (elder 0 (present ((4, 1) ∷ [])) (1 ∷ []) (ptr 0 3 0))) reports
    ∷ refuses 11 (picture usual (nursery 0 0 0 absent [] []) (elder full absent [] [])) reports
    ∷ refuses 10 (picture usual (nursery 0 0 0 absent [] []) (elder 0 (present ((4, 1) ∷ [])) (1 ∷ []) (ptr 0 3 0))) reports
    ∷ refuses 11 (picture usual (nursery 0 0 0 absent [] []) (elder full (present ((4, 1) ∷ [])) (1 ∷ []) (ptr 0 3 0))) reports
    ∷ []

-- Figures
figure_rows : List Row
figure_rows =
    -- a tie goes to the even thousandth, with either sign: −0.0625 and ±0.3125 towards zero, −0.1875 away from it
    figured 0xBFB0_0000_0000_0000 1 62
    ∷ figured 0xBFC8_0000_0000_0000 1 188
    ∷ figured 0x3FD4_0000_0000_0000 0 312
    ∷ figured 0xBFD4_0000_0000_0000 1 312
    -- at any size: 1.0625 and −4096.3125 towards zero, 12.1875 away from it
    ∷ figured 0x3FF1_0000_0000_0000 0 1062
    ∷ figured 0xC0B0_0050_0000_0000 1 4096312
    ∷ figured 0x4028_6000_0000_0000 0 12188
    -- the Floats beside a tie: above 0.0625, below 0.1875, and their negatives
    ∷ figured 0x3FB0_0000_0000_0001 0 63
    ∷ figured 0xBFB0_0000_0000_0001 1 63
    ∷ figured 0x3FC7_FFFF_FFFF_FFFF 0 187
    ∷ figured 0xBFC7_FFFF_FFFF_FFFF 1 187
    -- three quarters are no tie: 0.21875
    ∷ figured 0x3FCC_0000_0000_0000 0 219
    -- no Float is half a thousandth: 0.0005 is just above it, the Float below is below
    ∷ figured 0x3F40_624D_D2F1_A9FC 0 1
    ∷ figured 0x3F40_624D_D2F1_A9FB 0 0
    ∷ figured 0xBF40_624D_D2F1_A9FC 1 1
    ∷ figured 0xBF40_624D_D2F1_A9FB 0 0
    -- of the exact product: 0.0055 is just below a tie, its product with 1,000 as a Float is one
    ∷ figured 0x3F76_872B_020C_49BA 0 5
    -- 1.5, −1.5, −0, the smallest Float
    ∷ figured 0x3FF8_0000_0000_0000 0 1500
    ∷ figured 0xBFF8_0000_0000_0000 1 1500
    ∷ figured 0x8000_0000_0000_0000 0 0
    ∷ figured 0x0000_0000_0000_0001 0 0
    -- the last ties below the limit: 999999.8125, −999999.9375
    ∷ figured 0x412E_847F_A000_0000 0 999999812
    ∷ figured 0xC12E_847F_E000_0000 1 999999938
    -- 15 is judged on the figure: 999999.9994 and its negative are in, and so is the Float below 999999.9995, which itself rounds to
    -- 1000000.000
    ∷ figured 0x412E_847F_FFB1_5B57 0 999999999
    ∷ figured 0xC12E_847F_FFB1_5B57 1 999999999
    ∷ figured 0x412E_847F_FFBE_76C8 0 999999999
    ∷ figured 0xC12E_847F_FFBE_76C8 1 999999999
    ∷ refuses 15 [] (figures 0x412E_847F_FFBE_76C9)
    ∷ refuses 15 [] (figures 0xC12E_847F_FFBE_76C9)
    ∷ refuses 15 [] (figures 0xC12E_847F_FFCB_923A)
    -- the infinities, a NaN with payload and sign, the greatest Float
    ∷ refuses 15 [] (figures 0x7FF0_0000_0000_0000)
    ∷ refuses 15 [] (figures 0xFFF0_0000_0000_0000)
    ∷ refuses 15 [] (figures 0xFFF0_0000_0000_0001)
    ∷ refuses 15 [] (figures 0x7FEF_FFFF_FFFF_FFFF)
    ∷ []

-- Command files: 12 to 15

-- 14 before 13 and before what the call asks; the program's own limits; 13; 3 of set, with a heap or without
orders_run : List (List ℕ × String)
orders_run =
    (ALLOC 0 0, "1 no 14")
    ∷ (LOAD 0 0 0, "2 no 14")
    ∷ (STORE 0 0 0, "3 no 14")
    ∷ (REPORT, "4 no 14")
    ∷ (SET 15 2 0 2 0, "5 no 3")
    ∷ (NEW 129 8192 128 512, "6 no 1")
    ∷ (NEW 128 8193 128 512, "7 no 1")
    ∷ (NEW 128 8192 129 512, "8 no 1")
    ∷ (NEW 128 8192 128 513, "9 no 1")
    ∷ (NEW 256 0 0 0, "10 no 1")
    ∷ (NEW 0 0 256 0, "11 no 1")
    ∷ (NEW 128 8192 128 512, "12 new")
    ∷ (NEW 129 8192 128 512, "13 no 14")
    ∷ (LOAD 0 0 0, "14 no 13")
    ∷ (STORE 0 0 0, "15 no 13")
    ∷ (ALLOC 0 minus1, "16 no 5")
    ∷ (FIGURE 0, "17 no 15")
    ∷ (REPORT, "18 report 0 0 0 0 128 0 0 0 0 0 0")
    ∷ []

-- words are printed unsigned, a negative figure with its sign; an added offset is asked (9) before the index (8)
words_run : List (List ℕ × String)
words_run =
    (NEW 4 8 8 16, "1 new")
    ∷ (ALLOC 0 2, "2 alloc 0 0 0 0 0 0 0")
    ∷ (SET 1 5 1 5 minus1, "3 set")
    ∷ (STORE 1 0 1, "4 store")
    ∷ (SET 2 5 0 0 2, "5 set")
    ∷ (LOAD 3 2 minus1, "6 load 5 1 5 18446744073709551615")
    ∷ (FIGURE 3, "7 no 15")
    ∷ (SET 4 3 0 0xC093_4A45_6D5C_FAAD 0, "8 set")
    ∷ (FIGURE 4, "9 figure -1234.568")
    ∷ (SET 5 5 2 0 0, "10 no 3")
    ∷ (SET 6 5 0 4 greatest, "11 set")
    ∷ (LOAD 7 6 1, "12 no 9")
    ∷ (STORE 7 6 1, "13 no 9")
    ∷ (SET 8 5 1 0 greatest, "14 set")
    ∷ (LOAD 7 8 1, "15 no 9")
    ∷ (LOAD 7 8 0, "16 no 8")
    ∷ (SET 8 5 0 minus1 greatest, "17 set")
    ∷ (LOAD 7 8 1, "18 no 9")
    ∷ (SET 8 5 1 greatest 1, "19 set")
    ∷ (LOAD 7 8 0, "20 no 8")
    ∷ (SET 8 5 1 minus1 greatest, "21 set")
    ∷ (LOAD 7 8 1, "22 no 9")
    ∷ []

-- the destination register is a root of its own alloc, and takes the result last
own_root_run : List (List ℕ × String)
own_root_run =
    (NEW 4 8 8 16, "1 new")
    ∷ (ALLOC 0 2, "2 alloc 0 0 0 0 0 0 0")
    ∷ (ALLOC 0 2, "3 alloc 0 0 0 1 1 0 0")
    ∷ (SET 1 1 0 7 0, "4 set")
    ∷ (STORE 1 0 0, "5 store")
    ∷ (ALLOC 1 4, "6 alloc 1 2 0 1 1 0 0")
    ∷ (LOAD 2 0 0, "7 load 1 0 7 0")
    ∷ (REPORT, "8 report 2 0 0 0 4 2 0 3 8 0 0")
    ∷ []

-- an added offset below zero, in the elder; each kind is printed as its words, unsigned; a load changes its register; register 15
-- keeps its Float over a report, and keeps no array
registers_run : List (List ℕ × String)
registers_run =
    (NEW 4 8 8 16, "1 new")
    ∷ (ALLOC 0 4, "2 alloc 1 0 0 1 0 0 0")
    ∷ (SET 1 1 0 minus1 0, "3 set")
    ∷ (SET 2 5 1 0 1, "4 set")
    ∷ (STORE 1 2 minus1, "5 store")
    ∷ (LOAD 3 2 minus1, "6 load 1 0 18446744073709551615 0")
    ∷ (SET 15 3 0 0xBFF8_0000_0000_0000 0, "7 set")
    ∷ (STORE 15 0 2, "8 store")
    ∷ (LOAD 3 0 2, "9 load 3 0 13832806255468478464 0")
    ∷ (FIGURE 3, "10 figure -1.500")
    ∷ (SET 1 4 0 65 0, "11 set")
    ∷ (STORE 1 0 1, "12 store")
    ∷ (LOAD 3 0 1, "13 load 4 0 65 0")
    ∷ (SET 1 5 0 minus1 0, "14 set")
    ∷ (STORE 1 0 3, "15 store")
    ∷ (LOAD 3 0 3, "16 load 5 0 18446744073709551615 0")
    ∷ (REPORT, "17 report 1 0 0 0 4 0 0 1 4 1 0")
    ∷ (REPORT, "18 report 2 0 0 0 4 0 1 0 0 0 0")
    ∷ (FIGURE 15, "19 figure -1.500")
    ∷ (FIGURE 15, "20 figure -1.500")
    ∷ []

-- registers are Uninitialized at first; they keep what they hold over `new` and over a refusal
kept_run : List (List ℕ × String)
kept_run =
    (SET 0 5 0 0 0, "1 set")
    ∷ (NEW 4 8 8 16, "2 new")
    ∷ (LOAD 1 0 0, "3 load 0 0 0 0")
    ∷ (STORE 2 0 0, "4 store")
    ∷ (LOAD 1 0 0, "5 load 0 0 0 0")
    ∷ (SET 1 1 0 7 0, "6 set")
    ∷ (LOAD 1 0 4, "7 no 8")
    ∷ (SET 1 2 0 2 0, "8 no 3")
    ∷ (ALLOC 1 0, "9 no 5")
    ∷ (STORE 1 0 0, "10 store")
    ∷ (LOAD 2 0 0, "11 load 1 0 7 0")
    ∷ (SET 1 3 0 0x7FF8_0000_0000_0000 0, "12 set")
    ∷ (FIGURE 1, "13 no 15")
    ∷ (STORE 1 0 0, "14 store")
    ∷ (LOAD 2 0 0, "15 load 3 0 9221120237041090560 0")
    ∷ []

-- set asks of every word; figure of the kind. A figure above −1 has its sign, the largest its six digits
set_run : List (List ℕ × String)
set_run =
    (SET 0 1 1 7 0, "1 no 3")
    ∷ (SET 0 1 0 7 1, "2 no 3")
    ∷ (SET 0 0 0 1 0, "3 no 3")
    ∷ (SET 5 2 0 1 0, "4 set")
    ∷ (SET 0 1 0 7 0, "5 set")
    ∷ (FIGURE 0, "6 no 15")
    ∷ (SET 0 3 0 0xBFB0_0000_0000_0000 0, "7 set")
    ∷ (FIGURE 0, "8 figure -0.062")
    ∷ (SET 0 3 0 0x412E_847F_FFB1_5B57 0, "9 set")
    ∷ (FIGURE 0, "10 figure 999999.999")
    ∷ []

-- the last register is a root, and is changed: what is stored into the new array does not show through it
last_run : List (List ℕ × String)
last_run =
    (NEW 4 8 8 16, "1 new")
    ∷ (ALLOC 15 2, "2 alloc 0 0 0 0 0 0 0")
    ∷ (SET 1 1 0 7 0, "3 set")
    ∷ (STORE 1 15 1, "4 store")
    ∷ (ALLOC 14 2, "5 alloc 0 0 0 1 1 0 0")
    ∷ (SET 1 1 0 8 0, "6 set")
    ∷ (STORE 1 14 1, "7 store")
    ∷ (LOAD 2 15 1, "8 load 1 0 7 0")
    ∷ []

-- a number below 1,000 in decimal
numeral : ℕ → List ℕ
numeral n = cond (ltb n 100) [] ((48 + n / 100) ∷ []) ++ cond (ltb n 10) [] ((48 + n / 10 % 10) ∷ []) ++ (48 + n % 10) ∷ []

-- what k reports without a heap print, the first of them command n
unanswered : ℕ → ℕ → List ℕ
unanswered zero n = []
unanswered (suc k) n = numeral n ++ bytes " no 14" ++ 0x0A ∷ unanswered k (suc n)

command_rows : List Row
command_rows =
    -- an empty file prints nothing
    prints []
    ∷ prints orders_run
    ∷ prints words_run
    ∷ prints own_root_run
    ∷ prints registers_run
    ∷ prints kept_run
    ∷ prints set_run
    ∷ prints last_run
    -- a refused alloc leaves the heap
    ∷ prints ((NEW 4 8 0 0, "1 new") ∷ (ALLOC 0 1, "2 alloc 0 0 0 0 0 0 0") ∷ (ALLOC 1 4, "3 no 7") ∷ (REPORT, "4 report 0 1 1 0 3 0 0 0 0 0 0") ∷ [])
    -- a heap without any room
    ∷ prints ((NEW 0 0 0 0, "1 new") ∷ [])
    -- a line's number, and an alloc's offset, signed
    ∷ written 65536 (no_line 14) "65536 no 14"
    ∷ written 1 (alloc_line (to 1 7 12) (1 ∷ 2 ∷ 3 ∷ 4 ∷ [])) "1 alloc 1 7 12 1 2 3 4"
    ∷ written 1 (alloc_line (to 0 minus1 greatest) []) "1 alloc 0 18446744073709551615 9223372036854775807"
    ∷ written 1 (alloc_line (to 0 0 least) []) "1 alloc 0 0 -9223372036854775808"
    ∷ written 1 (alloc_line (to 0 0 minus1) []) "1 alloc 0 0 -1"
    -- 256 commands, each with its number
    ∷ record { before = []; trial = runs (replicate 256 0x52); answer = ok (unanswered 256 1); after = []; roots = [] }
    -- a report collects: the next one finds nothing
    ∷ prints ((NEW 4 8 8 16, "1 new") ∷ (ALLOC 0 2, "2 alloc 0 0 0 0 0 0 0") ∷ (REPORT, "3 report 0 1 2 0 2 0 0 0 0 0 0") ∷ (REPORT, "4 report 1 0 0 0 4 0 1 0 0 0 0") ∷ [])
    -- a command, and the bytes after it; 12: none, one not known, its operands cut short, a register of 16
    ∷ record { before = []; trial = parses (FIGURE 15 ++ 7 ∷ 8 ∷ []); answer = ok (7 ∷ 8 ∷ []); after = []; roots = [] }
    ∷ refuses 12 [] (parses [])
    ∷ refuses 12 [] (parses (0x45 ∷ []))
    ∷ refuses 12 [] (parses (0x46 ∷ []))
    ∷ refuses 12 [] (parses (FIGURE 16))
    ∷ record { before = []; trial = parses_all (REPORT ++ FIGURE 15 ++ 0x72 ∷ 7 ∷ []); answer = ok (0x72 ∷ 7 ∷ []); after = []; roots = [] }
    -- in a file: its no ends the run
    ∷ prints ((REPORT, "1 no 14") ∷ (0 ∷ REPORT, "2 no 12") ∷ [])
    ∷ prints ((0x72 ∷ [], "1 no 12") ∷ [])
    ∷ prints ((0xD2 ∷ [], "1 no 12") ∷ [])
    ∷ prints ((0x0A ∷ REPORT, "1 no 12") ∷ [])
    ∷ prints ((0x4E ∷ 4 ∷ 0 ∷ 8 ∷ 0 ∷ 8 ∷ 0 ∷ 16 ∷ [], "1 no 12") ∷ [])
    ∷ prints ((ALLOC 16 1 ++ REPORT, "1 no 12") ∷ [])
    ∷ prints ((SET 16 0 0 0 0, "1 no 12") ∷ [])
    ∷ prints ((LOAD 16 0 0, "1 no 12") ∷ [])
    ∷ prints ((LOAD 0 16 0, "1 no 12") ∷ [])
    ∷ prints ((STORE 16 0 0, "1 no 12") ∷ [])
    ∷ prints ((STORE 0 16 0, "1 no 12") ∷ [])
    ∷ prints ((FIGURE 16, "1 no 12") ∷ [])
    ∷ []

-- Bounds that only long inputs reach
long_rows : List Row
long_rows =
    -- 4,096 root cells are the most: then scratch is asked
    refuses 4 (clean usual) (calls (allocs (replicate 12288 0) 0 1))
    ∷ refuses 3 (clean usual) (calls (allocs (replicate 12291 0) 0 1))
    -- a file of 65,536 bytes is read, a longer one is not
    ∷ prints ((REPORT, "1 no 14") ∷ (replicate 65535 0, "2 no 12") ∷ [])
    ∷ prints ((REPORT ++ replicate 65536 0, "1 no 12") ∷ [])
    ∷ []

-- those that take longest stand last: of a wrong definition only the rows up to the first wrong one are computed
rows : List Row
rows = cases ++ nursery_rows ++ elder_rows ++ log_rows ++ room_rows ++ access_rows ++ limit_rows ++ report_rows ++ figure_rows ++ command_rows ++ asked_rows ++ size_rows ++ form_rows ++ cell_rows ++ long_rows

all-rows : every rows ≡ true
unfolding changed padded flag_word count_words picture sizes usual unused clean int bool float char ptr one_cell then_three
    minus1 least greatest full figure_numbers pointer_numbers elder_numbers step_numbers outcome same same_answer right every
    to wants looks puts at roots_of refuses shows figured
    little NEW ALLOC SET LOAD STORE REPORT FIGURE bytes file_of listing_of prints written
    first_run figure_run cases nursery_rows nine_roots twelve_cells elder_rows log_rows room_rows accessed into_nursery into_elder access_rows limit_rows
    size_rows rich spoilt form_rows accepted rejected cell_rows asked_rows report_rows figure_rows
    orders_run words_run own_root_run registers_run kept_run set_run last_run numeral unanswered command_rows long_rows rows
    of_bits
    keep_if flat places sum all_at_most
    mem add enter walk closure
    blank cell_words cell_of cells_of scalar valid_plain valid all_valid valid_words whole_cells whole same_ptr biased sum_fits pointers
    in_heap pointers_to
    cache most counts count up down count_in count_out masks matches_mask matches
    in_bounds fresh part held in_use
    image_length sizes_of regions flag barrier cut encode decode sized cursor_in tiles flagged packed_cells formed
    bump matched young_start young_step young_members before insert sort survivors all_allocated emptied collect_young
    old_start old_step old_members keeps keep count_dropped sweep collect_old new_base room put place place_new collect_if_full
    move_one moves_of sweeps_of
    moved_to holds swap_cell count_swap swap_young swap_old swap_all four_counts alloc_again collect_and_alloc alloc young_at old_at
    read out_young write_young write_old in_young in_old write statistics report
    cells_in roots_good value_good scratch_length opened alloc_on read_on write_on allocated left reported call report_call
    new_call
    rounded figure_of figure
    opcodes operand_bytes little_endian field command_of registers_of parse parse_up_to parse_all digits decimal signed spaced
    figure_text cell_text new_word alloc_word set_word load_word store_word report_word figure_word no_word line_text started holding
    register program_bounds the_heap no_heap pointer_in added float_in step stepped line lines_from longest_file lines listing
all-rows = refl
