-- A call and a command are refused only by their own questions.
use mathlib.Core.Path.{◌≡◌, refl, sym, ◌∙◌}
use mathlib.Core.Bool.{Bool, true, false, not, ◌&&◌, true≢false}
use mathlib.Core.Logic.{⊎_elim}
use mathlib.Core.List.Memᴰ
use mathlib.Core.List.{List, [], ◌∷◌, Memᴰ}
use mathlib.Core.Option.{Option, none, some}
use Prim.Native.Nat.{ℕ, zero, suc, ◌+◌, ◌-◌, ◌*◌, ◌%◌, ◌/◌, ◌<◌}
use native.Mathlib.Omega.{arith}
use lib.Dec.{eqb, ltb, leb}
use lib.Ieee.{Float, nan, inf, fin, up as above, down as below}
use lib.ListN.{length, get_or, take, set}
use borrow.Author.Tests.{eqb-true}
use Rattle.model.specs.Lists.{only_if, keep_if}
use Rattle.model.specs.Res.{Res, ok, refuse, ◌>>=◌, ask, each}
use Rattle.model.specs.Reach.{mem}
use Rattle.model.specs.Records.{Ptr, Cell, plain, ref, biased, sum_fits, valid_words}
use Rattle.model.specs.Barrier.{Barrier, absent, present, most, count, up, down, count_in, count_out}
use Rattle.model.specs.Heap.{Nursery, Elder, Sizes, in_bounds, Heap, held, in_use}
use Rattle.model.specs.Image.{image_length, sized, formed}
use Rattle.model.specs.Nursery.{young_members, sort, survivors, all_allocated, collect_young}
use Rattle.model.specs.Elder.{keeps, count_dropped, sweep, collect_old, new_base, room, put, place, place_new, Moving, collect_if_full, move_one, moves_of}
use Rattle.model.specs.Collector.{moved_to, holds, count_swap, swap_young, swap_old, swap_all, Allocation, alloc_again, collect_and_alloc, alloc, young_at, old_at, read, out_young, write_young, write_old, in_young, in_old, write, report}
use Rattle.model.specs.Calls.{roots_good, value_good, scratch_length, opened, alloc_on, read_on, write_on, allocated, left, reported, Call, allocs, reads, writes, call, report_call, new_call}
use Rattle.model.specs.Figure.{rounded, figure_of, figure}
use Rattle.model.specs.Command.{Command}
use Rattle.model.specs.Run.{State, program_bounds, the_heap, no_heap, pointer_in, added, float_in, step}
use Rattle.theorems.specs.Numbered.{Numbered, answered, numbered, alloc_questions, read_questions, write_questions, report_questions, call_numbers, report_numbers, new_numbers, command_numbers}
use Rattle.theorems.proofs.Reach.{Sub, mem-true, mem-has}
use Rattle.theorems.proofs.Lists.{and_parts, eqb_same}
use Rattle.theorems.proofs.Members.{no-young}
use Rattle.theorems.proofs.Kept.{refused-ok}

-- each of these numbers is one of those

abbrev among : List ℕ → List ℕ → Bool
among [] qs = true
among (p ∷ ps) qs = mem eqb p qs && among ps qs

listed : (q : ℕ) (qs : List ℕ) → mem eqb q qs ≡ true → Memᴰ q qs
listed = mem-true eqb eqb-true eqb_same

among_in : (ps qs : List ℕ) → among ps qs ≡ true → Sub ps qs
among_in [] qs e q m = absurd (Memᴰ.not-nil m)
among_in (p ∷ ps) qs e q m =
    let (here, rest) = and_parts (mem eqb p qs) (among ps qs) e in
    ⊎_elim (λ k. Memᴰ.cast k (listed p qs here)) (among_in ps qs rest q) (Memᴰ.cases_cons m)

-- through the steps that lead to an answer

module _ {qs : List ℕ} where
  refuses : {A : Type 0} (q : ℕ) → mem eqb q qs ≡ true → Numbered qs {A = A} (refuse q)
  refuses q e = numbered (listed q qs e)

  asks : (q : ℕ) (t : Bool) → mem eqb q qs ≡ true → Numbered qs (ask q t)
  asks q true e = answered
  asks q false e = refuses q e

  then : {A : Type 0} {x : Res A} (q : ℕ) (t : Bool) → mem eqb q qs ≡ true → Numbered qs x → Numbered qs (ask q t >>= λ _. x)
  then q true e g = g
  then q false e g = refuses q e

  bound : {A B : Type 0} {m : Res A} {f : A → Res B} → Numbered qs m → ((a : A) → Numbered qs (f a)) → Numbered qs (m >>= f)
  bound (answered {a = a}) g = g a
  bound (numbered m) g = numbered m

  eaches : {A B : Type 0} {f : A → B → Res B} → ((a : A) (b : B) → Numbered qs (f a b)) → (l : List A) (b : B) → Numbered qs (each f l b)
  eaches g [] b = answered
  eaches g (a ∷ l) b = bound (g a b) (eaches g l)

  either : {A : Type 0} {x y : Res A} (t : Bool) → Numbered qs x → Numbered qs y → Numbered qs {A = A} (elim t [ true ↦ x | false ↦ y ])
  either true g h = g
  either false g h = h

-- with fewer questions than there may be
module _ {ps qs : List ℕ} where
  within : {A : Type 0} {m : Res A} → Numbered ps m → among ps qs ≡ true → Numbered qs m
  within answered e = answered
  within (numbered {q = q} m) e = numbered (among_in ps qs e q m)

  fewer : {A B : Type 0} {m : Res A} {f : A → Res B} → Numbered ps m → among ps qs ≡ true → ((a : A) → Numbered qs (f a)) → Numbered qs (m >>= f)
  fewer n e g = bound (within n e) g

-- counts

up-numbered : (k : ℕ) (b : Barrier) → Numbered (11 ∷ []) (up k b)
unfolding up mem
up-numbered k b = then 11 (ltb (count b k) most) refl answered

down-numbered : (k : ℕ) (b : Barrier) → Numbered (10 ∷ []) (down k b)
unfolding down mem
down-numbered k absent = answered
down-numbered k (present cs) = then 10 (ltb 0 (get_or cs k 0)) refl answered

in-numbered : (own : ℕ) (c : Cell) (b : Barrier) → Numbered (11 ∷ []) (count_in own c b)
unfolding count_in
in-numbered own (plain k v) b = answered
in-numbered own (ref p) b = either (eqb p.heap own) answered (up-numbered (p.base % 256) b)

out-numbered : (own : ℕ) (c : Cell) (b : Barrier) → Numbered (10 ∷ []) (count_out own c b)
unfolding count_out
out-numbered own (plain k v) b = answered
out-numbered own (ref p) b = either (eqb p.heap own) answered (down-numbered (p.base % 256) b)

-- collections and moves

young-numbered : (y : Nursery) (roots : List Cell) (ms : List ℕ) → Numbered (11 ∷ 6 ∷ []) (collect_young y roots ms)
unfolding collect_young mem
young-numbered y roots ms =
    let ps = young_members y roots ms in
    then 11 (ltb y.colls most) refl
    (then 6 (all_allocated y (survivors ps)) refl
    (then 11 (leb (y.proms + length ps) most) refl answered))

-- without members 6 gets a yes
young-cleared : (y : Nursery) → Numbered (11 ∷ []) (collect_young y [] [])
unfolding collect_young survivors sort keep_if all_allocated mem
young-cleared y = rw (no-young y) (then 11 (ltb y.colls most) refl (then 11 (leb (y.proms + 0) most) refl answered))

dropped-numbered : (ps : List Ptr) (b : ℕ) (ss : List (List Cell)) (w : Barrier) → Numbered (10 ∷ []) (count_dropped ps b ss w)
unfolding count_dropped mem
dropped-numbered ps b [] w = answered
dropped-numbered ps b (s ∷ ss) w = fewer (eaches (out-numbered 1) (only_if (not (keeps ps b)) s) w) refl (dropped-numbered ps (suc b) ss)

old-numbered : (e : Elder) (roots : List Cell) (ms : List ℕ) → Numbered (11 ∷ 10 ∷ []) (collect_old e roots ms)
unfolding collect_old sweep mem
old-numbered e roots ms = then 11 (ltb e.colls most) refl (fewer (bound (dropped-numbered _ 0 e.slots e.bar) (λ _. answered)) refl (λ _. answered))

room-numbered : (z : Sizes) (k : ℕ) (e : Elder) → Numbered (7 ∷ []) (room z k e)
unfolding room mem
room-numbered z k e =
    then 7 (ltb (new_base e) z.s) refl
    (asks 7 (leb (in_use (set e.slots (new_base e) []) + k) z.c) refl)

put-numbered : (cs : List Cell) (e : Elder) → Numbered (11 ∷ []) (put cs e)
unfolding put mem
put-numbered cs e = fewer (eaches (in-numbered 1) cs e.bar) refl (λ _. answered)

-- room, then cells put there
placed-numbered : (z : Sizes) (k : ℕ) (cs : List Cell) (e : Elder) → Numbered (7 ∷ 11 ∷ []) (room z k e >>= λ _. put cs e)
unfolding mem
placed-numbered z k cs e = fewer (room-numbered z k e) refl (λ _. within (put-numbered cs e) refl)

full-numbered : (z : Sizes) (roots : List Cell) (ms : List ℕ) (v : Moving) → Numbered (11 ∷ 10 ∷ []) (collect_if_full z roots ms v)
unfolding collect_if_full mem
full-numbered z roots ms v = either (leb z.t (held v.elder.slots)) (fewer (old-numbered v.elder roots ms) refl (λ _. answered)) answered

move-numbered : (z : Sizes) (y : Nursery) (roots : List Cell) (ms : List ℕ) (p : Ptr) (v : Moving) → Numbered (7 ∷ 10 ∷ 11 ∷ []) (move_one z y roots ms p v)
unfolding move_one place mem
move-numbered z y roots ms p v =
    fewer (full-numbered z roots ms v) refl (λ u.
    fewer (placed-numbered z _ _ u.elder) refl (λ _. answered))

again-numbered : (z : Sizes) (a : ℕ) (y : Nursery) (e : Elder) → Numbered (7 ∷ 11 ∷ []) (alloc_again z a y e)
unfolding alloc_again place_new mem
again-numbered z a y e = either (ltb a (z.n - y.cursor)) answered (fewer (placed-numbered z a _ e) refl (λ _. answered))

-- the change of pointers

swap-numbered : (own : ℕ) (m : Ptr × ℕ) (c : Cell) (w : Barrier) → Numbered (10 ∷ 11 ∷ []) (count_swap own m c w)
unfolding count_swap mem
swap-numbered own m c w = either (holds m.0 c) (fewer (out-numbered own c w) refl (λ v. within (in-numbered own (ref (moved_to m)) v) refl)) answered

all-numbered : (m : Ptr × ℕ) (g : Nursery × Elder × List Cell) → Numbered (10 ∷ 11 ∷ []) (swap_all m g)
unfolding swap_all swap_young swap_old mem
all-numbered m g =
    fewer (bound (eaches (swap-numbered 0 m) (take g.0.cursor g.0.cells) g.0.bar) (λ _. answered)) refl (λ _.
    fewer (bound (eaches (eaches (swap-numbered 1 m)) g.1.slots g.1.bar) (λ _. answered)) refl (λ _. answered))

-- the calls on a heap

collect-numbered : (h : Heap) (roots : List Cell) (a : ℕ) → Numbered (6 ∷ 7 ∷ 10 ∷ 11 ∷ []) (collect_and_alloc h roots a)
unfolding collect_and_alloc mem
collect-numbered h roots a =
    fewer (young-numbered h.young roots _) refl (λ c.
    fewer (eaches (move-numbered h.size h.young roots _) (survivors c.0) _) refl (λ v.
    fewer (again-numbered h.size a c.1 v.elder) refl (λ g.
    fewer (eaches all-numbered (moves_of v.steps) _) refl (λ _. answered))))

alloc-numbered : (h : Heap) (roots : List Cell) (a : ℕ) → Numbered alloc_questions (alloc h roots a)
unfolding alloc alloc_questions mem
alloc-numbered h roots a =
    then 5 (ltb 0 a && ltb a 0x8000_0000_0000_0000) refl
    (either (ltb a (h.size.n - h.young.cursor)) answered (within (collect-numbered h roots a) refl))

young-at-numbered : (h : Heap) (p : Ptr) → Numbered (9 ∷ 8 ∷ []) (young_at h p)
unfolding young_at mem
young-at-numbered h p =
    let i = biased p.base + biased p.off in
    then 9 (sum_fits p.base p.off) refl
    (then 8 (leb 0x1_0000_0000_0000_0000 i && ltb i (0x1_0000_0000_0000_0000 + h.size.n)) refl answered)

old-at-numbered : (h : Heap) (p : Ptr) → Numbered (8 ∷ []) (old_at h p)
unfolding old_at mem
old-at-numbered h p = then 8 (ltb p.off (length (get_or h.old.slots p.base []))) refl answered

heaps-numbered : {qs : List ℕ} {A : Type 0} {x y : Res A} (k : ℕ) → mem eqb 8 qs ≡ true → Numbered qs x → Numbered qs y → Numbered qs {A = A} (elim k [ zero ↦ x | suc k ↦ elim k [ zero ↦ y | suc j ↦ refuse 8 ] ])
heaps-numbered zero e g h = g
heaps-numbered (suc zero) e g h = h
heaps-numbered (suc (suc j)) e g h = refuses 8 e

read-numbered : (h : Heap) (p : Ptr) → Numbered read_questions (read h p)
unfolding read read_questions mem
read-numbered h p = heaps-numbered p.heap refl (fewer (young-at-numbered h p) refl (λ _. answered)) (fewer (old-at-numbered h p) refl (λ _. answered))

out-young-numbered : (y : Nursery) (i : ℕ) → Numbered (10 ∷ []) (out_young y i)
unfolding out_young
out-young-numbered y i = either (ltb i y.cursor) (out-numbered 0 _ y.bar) answered

write-young-numbered : (y : Nursery) (i : ℕ) (c : Cell) → Numbered (10 ∷ 11 ∷ []) (write_young y i c)
unfolding write_young mem
write-young-numbered y i c = fewer (out-young-numbered y i) refl (λ w. fewer (in-numbered 0 c w) refl (λ _. answered))

write-old-numbered : (e : Elder) (b : ℕ) (s : List Cell) (o : ℕ) (c : Cell) → Numbered (10 ∷ 11 ∷ []) (write_old e b s o c)
unfolding write_old mem
write-old-numbered e b s o c = fewer (out-numbered 1 _ e.bar) refl (λ w. fewer (in-numbered 1 c w) refl (λ _. answered))

write-numbered : (h : Heap) (p : Ptr) (c : Cell) → Numbered write_questions (write h p c)
unfolding write in_young in_old write_questions mem
write-numbered h p c =
    heaps-numbered p.heap refl
    (fewer (young-at-numbered h p) refl (λ i. fewer (write-young-numbered h.young i c) refl (λ _. answered)))
    (fewer (old-at-numbered h p) refl (λ s. fewer (write-old-numbered h.old p.base s p.off c) refl (λ _. answered)))

report-numbered : (h : Heap) → Numbered report_questions (report h)
unfolding report report_questions mem
report-numbered h = fewer (young-cleared h.young) refl (λ _. fewer (old-numbered h.old [] []) refl (λ _. answered))

-- a library call

opened-numbered : (w : List ℕ) → Numbered (1 ∷ 2 ∷ []) (opened w)
unfolding opened mem
opened-numbered w = then 1 (sized w) refl (then 2 (formed w) refl answered)

alloc-on-numbered : (h : Heap) (roots : List ℕ) (scratch a : ℕ) → Numbered (3 ∷ 4 ∷ alloc_questions) (alloc_on h roots scratch a)
unfolding alloc_on alloc_questions mem
alloc-on-numbered h roots scratch a =
    then 3 (roots_good roots) refl
    (then 4 (leb (scratch_length h.size (length roots / 3)) scratch) refl (within (alloc-numbered h _ a) refl))

write-on-numbered : (h : Heap) (p : Ptr) (v : List ℕ) → Numbered (3 ∷ write_questions) (write_on h p v)
unfolding write_on write_questions mem
write-on-numbered h p v = then 3 (value_good v) refl (within (write-numbered h p _) refl)

module _ {qs : List ℕ} (w : List ℕ) where
  allocated-numbered : (roots : List ℕ) {m : Res Allocation} → Numbered qs m → Numbered qs (allocated w roots m).answer
  unfolding allocated
  allocated-numbered roots answered = answered
  allocated-numbered roots (numbered m) = numbered m

  left-numbered : {m : Res Heap} → Numbered qs m → Numbered qs (left w m).answer
  unfolding left
  left-numbered answered = answered
  left-numbered (numbered m) = numbered m

  reported-numbered : {m : Res (List ℕ × Heap)} → Numbered qs m → Numbered qs (reported w m).answer
  unfolding reported
  reported-numbered answered = answered
  reported-numbered (numbered m) = numbered m

pub call-numbered : (c : Call) (w : List ℕ) → Numbered (call_numbers c) (call c w).answer
unfolding call read_on call_numbers alloc_questions read_questions write_questions mem
call-numbered (allocs roots scratch a) w = allocated-numbered w roots (fewer (opened-numbered w) refl (λ h. within (alloc-on-numbered h roots scratch a) refl))
call-numbered (reads p) w = fewer (opened-numbered w) refl (λ h. fewer (read-numbered h p) refl (λ _. answered))
call-numbered (writes p v) w = left-numbered w (fewer (opened-numbered w) refl (λ h. within (write-on-numbered h p v) refl))

pub report-call-numbered : (w : List ℕ) → Numbered report_numbers (report_call w).answer
unfolding report_call report_numbers report_questions mem
report-call-numbered w = reported-numbered w (fewer (opened-numbered w) refl (λ h. within (report-numbered h) refl))

pub new-call-numbered : (z : Sizes) (w : List ℕ) → Numbered new_numbers (new_call z w).answer
unfolding new_call new_numbers mem
new-call-numbered z w = left-numbered w (then 1 (in_bounds z && eqb (length w) (image_length z)) refl answered)

-- 0 is no refusal's number

positive : {qs : List ℕ} {A : Type 0} (m : Res A) {q : ℕ} → Numbered qs m → mem eqb 0 qs ≡ false → m ≡ refuse q → 0 < q
positive (ok a) n z e = absurd (refused-ok (sym e))
positive {qs} (refuse p) {q} (numbered m) z e = go p m (cc)
  where
    go : (p : ℕ) → Memᴰ p qs → p ≡ q → 0 < q
    go zero m e = absurd (true≢false (sym (mem-has eqb eqb-true eqb_same 0 qs m) ∙ z))
    go (suc p) m e = omega arith

pub call-refusal-positive : (c : Call) (w : List ℕ) {q : ℕ} → (call c w).answer ≡ refuse q → 0 < q
unfolding call_numbers alloc_questions read_questions write_questions mem
call-refusal-positive (allocs roots scratch a) w = positive _ (call-numbered (allocs roots scratch a) w) refl
call-refusal-positive (reads p) w = positive _ (call-numbered (reads p) w) refl
call-refusal-positive (writes p v) w = positive _ (call-numbered (writes p v) w) refl

pub report-refusal-positive : (w : List ℕ) {q : ℕ} → (report_call w).answer ≡ refuse q → 0 < q
unfolding report_numbers report_questions mem
report-refusal-positive w = positive _ (report-call-numbered w) refl

-- a command

figure-numbered : (x : Float) → Numbered (15 ∷ []) (figure_of x)
unfolding figure_of mem
figure-numbered nan = refuses 15 refl
figure-numbered (inf s) = refuses 15 refl
figure-numbered (fin s m e) = then 15 (leb (rounded (1000 * (m * above e)) (below e)) 999999999) refl answered

option-numbered : {qs : List ℕ} {A : Type 0} {x : Res A} {f : Heap → Res A} (o : Option Heap) → Numbered qs x → ((h : Heap) → Numbered qs (f h)) → Numbered qs {A = A} (elim o [ none ↦ x | some h ↦ f h ])
option-numbered none g k = g
option-numbered (some h) g k = k h

heap-numbered : (s : State) → Numbered (14 ∷ []) (the_heap s)
unfolding the_heap mem
heap-numbered s = option-numbered s.heap (refuses 14 refl) (λ _. answered)

no-heap-numbered : (s : State) → Numbered (14 ∷ []) (no_heap s)
unfolding no_heap mem
no-heap-numbered s = option-numbered s.heap answered (λ _. refuses 14 refl)

pointer-numbered : (c : Cell) → Numbered (13 ∷ []) (pointer_in c)
unfolding pointer_in mem
pointer-numbered (plain k v) = refuses 13 refl
pointer-numbered (ref p) = answered

added-numbered : (p : Ptr) (d : ℕ) → Numbered (9 ∷ []) (added p d)
unfolding added mem
added-numbered p d = then 9 (sum_fits p.off d) refl answered

float-numbered : (c : Cell) → Numbered (15 ∷ []) (float_in c)
unfolding float_in mem
float-numbered (plain k v) = then 15 (eqb k 3) refl answered
float-numbered (ref p) = refuses 15 refl

pub step-numbered : (c : Command) (s : State) → Numbered (command_numbers c) (step c s)
unfolding step figure command_numbers alloc_questions read_questions write_questions report_questions mem
step-numbered (Command.new z) s = fewer (no-heap-numbered s) refl (λ _. then 1 (program_bounds z) refl answered)
step-numbered (Command.alloc r a) s = fewer (heap-numbered s) refl (λ h. fewer (alloc-numbered h s.registers a) refl (λ _. answered))
step-numbered (Command.set r a b o) s = then 3 (valid_words a b o) refl answered
step-numbered (Command.load r p d) s =
    fewer (heap-numbered s) refl (λ h.
    fewer (pointer-numbered _) refl (λ x.
    fewer (added-numbered x d) refl (λ y.
    fewer (read-numbered h y) refl (λ _. answered))))
step-numbered (Command.store r p d) s =
    fewer (heap-numbered s) refl (λ h.
    fewer (pointer-numbered _) refl (λ x.
    fewer (added-numbered x d) refl (λ y.
    fewer (write-numbered h y _) refl (λ _. answered))))
step-numbered Command.report s = fewer (heap-numbered s) refl (λ h. fewer (report-numbered h) refl (λ _. answered))
step-numbered (Command.figure r) s = fewer (float-numbered _) refl (λ _. fewer (figure-numbered _) refl (λ _. answered))
