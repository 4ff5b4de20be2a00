use Rattle.std.proofs.Common.{◌≡◌, [], ℕ, ◌+◌, ◌*◌, ◌^◌, ◌≤◌, ◌<◌, List, length, get_or, drop, ◌∙◌, arith}
use native.Mathlib.Nat.{pos_of_ne-zero}
use Rattle.model.specs.Lists.{keep_if}
use Rattle.model.specs.Records.{Ptr, cells_of, pointers, pointers_to}
use Rattle.trace.specs.declared.Member.{Member}
use Rattle.trace.specs.Words.{ptr_of}
use Rattle.trace.specs.declared.Members.{Members}
use Rattle.trace.specs.Entered.{Entered, Room}
use Rattle.trace.proofs.Entering.{none-entered}
use Rattle.trace.specs.Leads.{begins_at, leads_to}
use Rattle.trace.specs.Traces.{Within}
use Rattle.trace.proofs.Heaps.{own-inside}
use Rattle.trace.proofs.Generation.visit.Goals as goal

-- the allocation at the base of m has n cells
module _ (own : ℕ) (ls cells : List ℕ) (m : Member) {n : ℕ} (len : n ≡ get_or ls m.base 0) where
  leads-nowhere : {p : Ptr} → ptr_of m ≡ p → n ≡ 0 → leads_to own ls cells p ≡ []
  unfolding leads_to pointers_to pointers keep_if cells_of
  leads-nowhere at e = rw (← at, ← len, e)

  module _ (two : own < 2) (f : Within own ls cells) (h : n ≡ 0 → ⊥) where
    inside : 3 * (begins_at own ls m.base + n) ≤ length cells
    inside = rw len ((own-inside own ls cells two f).fits m.base (pos_of_ne-zero (λ e. h (len ∙ e))))

    begin-fits : length cells < 2 ^ 64 → begins_at own ls m.base < 2 ^ 64
    begin-fits l = omega (arith, inside)

    scan-within : (s : ℕ) → s ≡ begins_at own ls m.base → 3 * (s + n) ≤ length cells
    scan-within s e = rw e inside

  module _ (s : ℕ) (e : s ≡ begins_at own ls m.base) {p : Ptr} (at : ptr_of m ≡ p) where
    leads : leads_to own ls cells p ≡ pointers_to own (cells_of n (drop (3 * s) cells))
    unfolding leads_to
    leads = rw (← at, ← len, ← e)

    scan-room : (l : Members) → Room l (leads_to own ls cells p) → Room l (pointers_to own (cells_of n (drop (3 * s) cells)))
    scan-room l r = rw leads at r

    scan-done : (l k : Members) → Entered l k (pointers_to own (cells_of n (drop (3 * s) cells))) → Entered l k (leads_to own ls cells p)
    scan-done l k q = rw leads q

pub returns-then-len-eq0 : goal.returns-then-len-eq0
returns-then-len-eq0 c = search (none-entered, leads-nowhere)

pub begins_at-from-requires-clause-b_bound : goal.begins_at-from-requires-clause-b_bound
begins_at-from-requires-clause-b_bound c = search begin-fits

pub scan-requires-clause-len_in_bounds : goal.scan-requires-clause-len_in_bounds
scan-requires-clause-len_in_bounds c = search scan-within

pub scan-requires-clause-room : goal.scan-requires-clause-room
scan-requires-clause-room c = search scan-room

pub returns : goal.returns
returns c = search scan-done
