-- The run of a command file: commands over a heap and sixteen registers, each with its answer in numbers.
use Rattle.std.specs.Prelude.{Bool, ◌&&◌, List, ℕ, ◌+◌, ◌%◌, leb, eqb, get_or, replicate, set as put}
use Rattle.std.proofs.Math.Option.{Option, none, some}
use Rattle.model.specs.Res.{Res, ok, refuse, ◌>>=◌, ask}
use Rattle.model.specs.Records.{Ptr, Cell, plain, ref, blank, cell_of, valid_words, sum_fits}
use Rattle.model.specs.Heap.{Sizes, Heap, fresh}
use Rattle.model.specs.Collector.{four_counts, alloc as alloc_in, read, write, report as report_of}
use Rattle.model.specs.Figure.{Figure, figure as figure_in}
use Rattle.model.specs.Command.{Command, new, alloc, set, load, store, report, figure}

-- sixteen registers, Uninitialized at first, are the roots
pub record State : Type 0 where
  pub heap : Option Heap
  pub registers : List Cell

unfoldable pub started : State
started = record { heap = none; registers = replicate 16 blank }

-- the state with this heap and these registers
unfoldable pub holding : Option Heap → List Cell → State → State
holding h rs s = record { heap = h; registers = rs }

unfoldable pub register : State → ℕ → Cell
register s r = get_or s.registers r blank

-- What a command is answered, in numbers: a pointer and the four counts, a cell, a report's numbers, a figure, a question
pub data Line : Type 0 where
  new_line : Line
  alloc_line : Ptr → List ℕ → Line
  set_line : Line
  load_line : Cell → Line
  store_line : Line
  report_line : List ℕ → Line
  figure_line : Figure → Line
  no_line : ℕ → Line

-- the limits of the program: N and S to 128, C to 512
abbrev pub largest : Sizes
largest = record { n = 128; t = 8192; s = 128; c = 512 }

unfoldable pub program_bounds : Sizes → Bool
program_bounds z = leb z.n largest.n && leb z.t largest.t && leb z.s largest.s && leb z.c largest.c

-- 14. Is there a heap?
unfoldable pub the_heap : State → Res Heap
the_heap s = elim s.heap [ none ↦ refuse 14 | some h ↦ ok h ]

-- or for new, none yet?
unfoldable pub no_heap : State → Res (Unit {0})
no_heap s = elim s.heap [ none ↦ ok tt | some h ↦ refuse 14 ]

-- 13. Does the pointer register hold a pointer?
unfoldable pub pointer_in : Cell → Res Ptr
pointer_in (plain k v) = refuse 13
pointer_in (ref p) = ok p

-- an added offset within i64 (9)
unfoldable pub added : Ptr → ℕ → Res Ptr
added p d =
    ask 9 (sum_fits p.off d) >>= λ _.
    ok (record { heap = p.heap; base = p.base; off = (p.off + d) % 0x1_0000_0000_0000_0000 })

-- 15 asks for a Float
unfoldable pub float_in : Cell → Res ℕ
float_in (plain k v) = ask 15 (eqb k 3) >>= λ _. ok v
float_in (ref p) = refuse 15

-- A command asks 14 and 13 or 15 first, then what its call asks, an added offset before the index; set asks 3. The answer, and
-- the state after it.
unfoldable pub step : Command → State → Res (Line × State)
step (new z) s =
    no_heap s >>= λ _.
    ask 1 (program_bounds z) >>= λ _.
    ok (new_line, holding (some (fresh z)) s.registers s)
step (alloc r a) s =
    the_heap s >>= λ h.
    alloc_in h s.registers a >>= λ x.
    ok (alloc_line x.ptr (four_counts x), holding (some x.heap) (put x.roots r (ref x.ptr)) s)
step (set r a b o) s =
    ask 3 (valid_words a b o) >>= λ _.
    ok (set_line, holding s.heap (put s.registers r (cell_of a b o)) s)
step (load r p d) s =
    the_heap s >>= λ h.
    pointer_in (register s p) >>= λ x.
    added x d >>= λ y.
    read h y >>= λ c.
    ok (load_line c, holding s.heap (put s.registers r c) s)
step (store r p d) s =
    the_heap s >>= λ h.
    pointer_in (register s p) >>= λ x.
    added x d >>= λ y.
    write h y (register s r) >>= λ h'.
    ok (store_line, holding (some h') s.registers s)
step report s =
    the_heap s >>= λ h.
    report_of h >>= λ x.
    ok (report_line x.0, holding (some x.1) s.registers s)
step (figure r) s =
    float_in (register s r) >>= λ b.
    figure_in b >>= λ f.
    ok (figure_line f, s)

-- a refusal leaves the state
unfoldable pub stepped : State → Res (Line × State) → Line × State
stepped s (ok r) = r
stepped s (refuse q) = (no_line q, s)
