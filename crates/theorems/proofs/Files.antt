-- Demand 3 holds of what a command file does from its `new` to its first report.
use mathlib.Core.Path.{◌≡◌, refl, sym, ap, ◌∙◌}
use mathlib.Core.Bool.{Bool, true, false}
use mathlib.Core.Logic.{◌⊎◌, ◌≢◌, inl, inr, ⊎_elim}
use mathlib.Core.List.Memᴰ
use mathlib.Core.List.{List, [], ◌∷◌, ◌++◌, append_assoc}
use mathlib.Core.Option.{none, some}
use Prim.Native.Nat.{ℕ, suc, ◌+◌, ◌≤◌}
use native.Mathlib.Nat.{add-zero, add-suc, suc-add}
use native.Mathlib.Omega.{arith}
use lib.ListN.{length, set as put}
use Rattle.model.specs.Res.{Res, ok, refuse, ◌>>=◌}
use Rattle.model.specs.Records.{cell_of, valid_words}
use Rattle.model.specs.Heap.{Sizes, Heap, fresh}
use Rattle.model.specs.Image.{encode}
use Rattle.model.specs.Calls.{Outcome, Call, call}
use Rattle.model.specs.Figure.{Figure, figure as figure_in}
use Rattle.model.specs.Command.{Command, new, alloc, set, load, store, report, figure, parse_all}
use Rattle.model.specs.Run.{State, started, holding, register, Line, new_line, program_bounds, the_heap, no_heap, float_in, step, stepped}
use Rattle.model.specs.Listing.{line, lines_from, longest_file}
use Rattle.model.specs.Demand.{History, nothing, next}
use Rattle.theorems.specs.Files.{call_of, Follows, ends, quiet, calls, NoReport, Registered, opening, Served, state_after, Heapless, spelled, ServedFile}
use Rattle.theorems.proofs.Cells.{cell-valid, valid-blanks}
use Rattle.theorems.proofs.Image.{decode-encode, fresh-fit}
use Rattle.theorems.proofs.Demand.{demand-3}
use Rattle.theorems.proofs.Reading.{within}
use Rattle.theorems.proofs.Program.{limits-bound}
use Rattle.theorems.proofs.Doors.{fresh-image, history-met}
use Rattle.theorems.proofs.Following.{At, One, put-registered, one}

-- the calls that a run follows are a history
pub follows-history : {s u : State} {w v : List ℕ} {cs : List Command} {ls : List Line} {l : List (Call × Outcome)} → Follows s w cs ls l u v → History w l v
follows-history (ends h) = nothing
follows-history (quiet h n e f) = follows-history f
follows-history (calls k o h n is e r f) = next k o is (follows-history f)

-- every run without a report follows its calls

record Followed (s : State) (w : List ℕ) (cs : List Command) : Type 0 where
  answers : List Line
  events : List (Call × Outcome)
  last : State
  image : List ℕ
  follows : Follows s w cs answers events last image

module _ {z : Sizes} (bounds : program_bounds z ≡ true) where
  follow : (cs : List Command) → NoReport cs → (s : State) (w : List ℕ) → At z s w → Followed s w cs
  follow [] n s w at = record { answers = []; events = []; last = s; image = w; follows = ends at.heap }
  follow (c ∷ cs) n s w at = go (follow cs (λ m. n (Memᴰ.tail m))) (one bounds at c (λ e. n (Memᴰ.head (sym e))))
    where
      go : ((t : State) (v : List ℕ) → At z t v → Followed t v cs) → One z s w c → Followed s w (c ∷ cs)
      go rest (One.quiet a t n e k) =
          let f = rest t w k in
          record { answers = a ∷ f.answers; events = f.events; last = f.last; image = f.image; follows = quiet at.heap n e f.follows }
      go rest (One.calls k a t n e r j) =
          let f = rest t (call k w).image j in
          record { answers = a ∷ f.answers; events = (k, call k w) ∷ f.events; last = f.last; image = f.image; follows = calls k (call k w) at.heap n refl e r f.follows }

module _ (s : State) (bare : s.heap ≡ none) (g : Registered s) (z : Sizes) (bounds : program_bounds z ≡ true) where
  begins : At z (opening z s) (encode (fresh z))
  unfolding holding fresh
  begins =
      let back = decode-encode (fresh z) (fresh-fit z (limits-bound z bounds)) in
      record {
        heap = ap some (sym back);
        image = fresh-image z (limits-bound z bounds);
        sizes = ap (λ (h : Heap). h.size) back;
        registered = record { sixteen = g.sixteen; valid_cells = g.valid_cells };
      }

  pub serves : (cs : List Command) → NoReport cs → Served s z cs
  unfolding step stepped no_heap
  serves cs n =
      let f = follow bounds cs n (opening z s) (encode (fresh z)) begins in
      record {
        opens = rw (bare, bounds);
        answers = f.answers;
        events = f.events;
        last = f.last;
        image = f.image;
        follows = f.follows;
        history = follows-history f.follows;
        met = history-met (fresh-image z (limits-bound z bounds)) (follows-history f.follows);
        demand = demand-3 z (limits-bound z bounds) f.events f.image (follows-history f.follows);
      }

-- Before a heap. A command finds none, makes no call and leaves none, or it is the answered `new`.

data Before (s : State) (c : Command) : Type 0 where
  waits : (t : State) → call_of c s ≡ none → (stepped s (step c s)).1 ≡ t → t.heap ≡ none → Registered t → Before s c
  opens : (z : Sizes) → c ≡ new z → program_bounds z ≡ true → Before s c

module _ {s : State} (bare : s.heap ≡ none) (g : Registered s) where
  no-heap : the_heap s ≡ refuse 14
  unfolding the_heap
  no-heap = rw bare

  stays : {c : Command} → call_of c s ≡ none → (stepped s (step c s)).1 ≡ s → Before s c
  stays n e = waits s n e bare g

  before : (c : Command) → Before s c
  unfolding step stepped no_heap call_of holding
  before (new z) = go (program_bounds z) refl
    where
      go : (t : Bool) → program_bounds z ≡ t → Before s (new z)
      go true e = opens z refl e
      go false e = stays refl (rw (bare, e))
  before (alloc r a) = stays (rw no-heap) (rw no-heap)
  before (set r a b o) = go (valid_words a b o) refl
    where
      go : (t : Bool) → valid_words a b o ≡ t → Before s (set r a b o)
      go true e = waits (holding s.heap (put s.registers r (cell_of a b o)) s) refl (rw e) bare (put-registered s.heap s s.registers r (cell_of a b o) g.sixteen g.valid_cells (cell-valid a b o e))
      go false e = stays refl (rw e)
  before (load r p d) = stays (rw no-heap) (rw no-heap)
  before (store r p d) = stays (rw no-heap) (rw no-heap)
  before report = stays refl (rw no-heap)
  before (figure r) = stays refl (go (float_in (register s r)))
    where
      shown : (m : Res Figure) → (stepped s (m >>= λ f. ok (Line.figure_line f, s))).1 ≡ s
      shown (ok f) = refl
      shown (refuse q) = refl

      go : (m : Res ℕ) → (stepped s (m >>= λ b. figure_in b >>= λ f. ok (Line.figure_line f, s))).1 ≡ s
      go (ok b) = shown (figure_in b)
      go (refuse q) = refl

after_next : (s : State) (c : Command) (cs : List Command) {t : State} → (stepped s (step c s)).1 ≡ t → state_after s (c ∷ cs) ≡ state_after t cs
unfolding state_after
after_next s c cs e = ap (λ (x : State). state_after x cs) e

-- the first answered `new`, if there is one
data Opening (s : State) (cs : List Command) : Type 0 where
  never : Heapless s cs → Opening s cs
  first : (pre : List Command) (z : Sizes) (rest : List Command) → cs ≡ pre ++ new z ∷ rest → Heapless s pre → (state_after s pre).heap ≡ none → Registered (state_after s pre) → program_bounds z ≡ true → Opening s cs

find : (cs : List Command) (s : State) → s.heap ≡ none → Registered s → Opening s cs
unfolding state_after
find [] s bare g = never bare
find (c ∷ cs) s bare g = go (find cs) (before bare g c)
  where
    go : ((t : State) → t.heap ≡ none → Registered t → Opening t cs) → Before s c → Opening s (c ∷ cs)
    go more (opens z is b) = first [] z cs (ap (◌∷ cs) is) bare bare g b
    go more (waits t n e bare' g') = join (more t bare' g')
      where
        join : Opening t cs → Opening s (c ∷ cs)
        join (never h) = never (bare, n, rw e h)
        join (first pre z rest is h bare'' g'' b) = first (c ∷ pre) z rest (ap (c ∷◌) is) (bare, n, rw e h) (rw (after_next s c pre e) bare'') (rw (after_next s c pre e) g'') b

-- the commands up to the first report

reporting : (c : Command) → (c ≡ report) ⊎ (c ≢ report)
reporting (new z) = inr (λ e. let z : ◌≡◌ {A = ℕ} 0 1 = cc in omega arith)
reporting (alloc r a) = inr (λ e. let z : ◌≡◌ {A = ℕ} 0 1 = cc in omega arith)
reporting (set r a b o) = inr (λ e. let z : ◌≡◌ {A = ℕ} 0 1 = cc in omega arith)
reporting (load r p d) = inr (λ e. let z : ◌≡◌ {A = ℕ} 0 1 = cc in omega arith)
reporting (store r p d) = inr (λ e. let z : ◌≡◌ {A = ℕ} 0 1 = cc in omega arith)
reporting report = inl refl
reporting (figure r) = inr (λ e. let z : ◌≡◌ {A = ℕ} 0 1 = cc in omega arith)

record Parted (cs : List Command) : Type 0 where
  front : List Command
  back : List Command
  whole : cs ≡ front ++ back
  no_report : NoReport front
  then_report : (back ≡ []) ⊎ ((ds : List Command) × (back ≡ report ∷ ds))

part : (cs : List Command) → Parted cs
part [] = record { front = []; back = []; whole = refl; no_report = Memᴰ.not-nil; then_report = inl refl }
part (c ∷ cs) = go (part cs) (reporting c)
  where
    go : Parted cs → (c ≡ report) ⊎ (c ≢ report) → Parted (c ∷ cs)
    go p (inl e) = record { front = []; back = c ∷ cs; whole = refl; no_report = Memᴰ.not-nil; then_report = inr (cs, ap (◌∷ cs) e) }
    go p (inr n) = record { front = c ∷ p.front; back = p.back; whole = ap (c ∷◌) p.whole; no_report = λ m. ⊎_elim (λ e. n (sym e)) p.no_report (Memᴰ.cases_cons m); then_report = p.then_report }

-- The lines

lines-joined : (n : ℕ) (s : State) (cs ds : List Command) (left : List ℕ) → lines_from n s (cs ++ ds) left ≡ lines_from n s cs [] ++ lines_from (n + length cs) (state_after s cs) ds left
unfolding lines_from state_after
lines-joined n s [] ds left = rw (add-zero n)
lines-joined n s (c ∷ cs) ds left = rw (lines-joined (suc n) (stepped s (step c s)).1 cs ds left, suc-add, add-suc)

record Listed (n : ℕ) (s : State) (cs : List Command) (ls : List Line) (u : State) : Type 0 where
  spelled-so : lines_from n s cs [] ≡ spelled n ls
  reached : state_after s cs ≡ u

one_line : {n : ℕ} {s t u : State} {c : Command} {cs : List Command} {a : Line} {ls : List Line} → stepped s (step c s) ≡ (a, t) → Listed (suc n) t cs ls u → Listed n s (c ∷ cs) (a ∷ ls) u
unfolding lines_from spelled
one_line {s = s} {c = c} {cs = cs} e k = record { spelled-so = rw (e, k.spelled-so); reached = after_next s c cs (ap (λ (r : Line × State). r.1) e) ∙ k.reached }

follows-lines : {s u : State} {w v : List ℕ} {cs : List Command} {ls : List Line} {l : List (Call × Outcome)} → Follows s w cs ls l u v → (n : ℕ) → Listed n s cs ls u
unfolding lines_from spelled state_after
follows-lines (ends h) n = record { spelled-so = refl; reached = refl }
follows-lines (quiet h k e f) n = one_line e (follows-lines f (suc n))
follows-lines (calls k o h m is e r f) n = one_line e (follows-lines f (suc n))

-- a file

module _ (n : ℕ) (s : State) (z : Sizes) (cs rest : List Command) (left : List ℕ) (v : Served s z cs) where
  served-lines : lines_from n s (new z ∷ cs ++ rest) left ≡ line n new_line ∷ spelled (suc n) v.answers ++ lines_from (suc n + length cs) v.last rest left
  unfolding lines_from
  served-lines =
      let k = follows-lines v.follows (suc n) in
      rw (v.opens, lines-joined (suc n) (opening z s) cs rest left, k.spelled-so, k.reached)

file-lines : (pre : List Command) (z : Sizes) (cs rest : List Command) (left : List ℕ) (v : Served (state_after started pre) z cs)
    → lines_from 1 started (pre ++ new z ∷ cs ++ rest) left
    ≡ lines_from 1 started pre [] ++ line (suc (length pre)) new_line ∷ spelled (suc (suc (length pre))) v.answers ++ lines_from (suc (suc (length pre)) + length cs) v.last rest left
file-lines pre z cs rest left v =
    let number : 1 + length pre ≡ suc (length pre) = omega arith in
    rw (append_assoc pre (new z ∷ cs) rest, lines-joined 1 started pre (new z ∷ cs ++ rest) left, number, served-lines (suc (length pre)) (state_after started pre) z cs rest left v)
    (sym (append_assoc (lines_from 1 started pre []) (line (suc (length pre)) new_line ∷ spelled (suc (suc (length pre))) v.answers) _))

started-registered : Registered started
unfolding started
started-registered = record { sixteen = refl; valid_cells = valid-blanks 16 }

started-bare : started.heap ≡ none
unfolding started
started-bare = refl

pub file-served : (file : List ℕ) → length file ≤ longest_file → Heapless started (parse_all file).0 ⊎ ServedFile file
file-served file short = go (find (parse_all file).0 started started-bare started-registered)
  where
    left : List ℕ
    left = (parse_all file).1

    go : Opening started (parse_all file).0 → Heapless started (parse_all file).0 ⊎ ServedFile file
    go (never h) = inl h
    go (first pre z rest is h bare g b) = inr (record {
      before = pre;
      sizes = z;
      commands = p.front;
      rest = p.back;
      parsed = all;
      heapless = h;
      in_bounds = b;
      no_report = p.no_report;
      then_report = p.then_report;
      served = v;
      printed = within file short ∙ ap (λ (cs : List Command). lines_from 1 started cs left) all ∙ file-lines pre z p.front p.back left v;
    })
      where
        p : Parted rest
        p = part rest

        v : Served (state_after started pre) z p.front
        v = serves (state_after started pre) bare g z b p.front p.no_report

        all : (parse_all file).0 ≡ pre ++ new z ∷ p.front ++ p.back
        all = is ∙ ap (λ (cs : List Command). pre ++ new z ∷ cs) p.whole ∙ sym (append_assoc pre (new z ∷ p.front) p.back)
