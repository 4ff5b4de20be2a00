-- Both collections without roots or masks: there is no member, so every allocation leaves.
use mathlib.Core.Path.{◌≡◌, refl, sym, ap}
use mathlib.Core.List.{List, []}
use Prim.Native.Nat.{ℕ, ◌+◌, ◌≤◌, ◌<◌}
use native.Mathlib.Omega.{arith}
use lib.ListN.{length, get_or}
use borrow.Author.Tests.{lt-ltb, le-ltb, le-leb}
use Rattle.model.specs.Lists.{keep_if}
use Rattle.model.specs.Res.{Res, ok, refuse, ◌>>=◌}
use Rattle.model.specs.Records.{Ptr}
use Rattle.model.specs.Barrier.{most}
use Rattle.model.specs.Heap.{Nursery, Elder, Heap}
use Rattle.model.specs.Image.{decode}
use Rattle.model.specs.Nursery.{sort, survivors, all_allocated, emptied, collect_young}
use Rattle.model.specs.Elder.{collect_old}
use Rattle.model.specs.Collector.{statistics, report}
use Rattle.model.specs.Calls.{Outcome, reported}
use Rattle.theorems.specs.Fit.{Image}
use Rattle.theorems.specs.Does.{Meets, with_young, with_old}
use Rattle.theorems.proofs.Image.{image-decode}
use Rattle.theorems.proofs.Members.{no-young}
use Rattle.fields.specs.Fields.{Reads, Turns, on_young}
use Rattle.fields.proofs.Parts.{most-is}
use Rattle.std.proofs.Common.{Result, Ok, Err}
use Rattle.question.specs.Question.{number, number_answer}
use Rattle.question.specs.declared.Question.{Question}
use Rattle.question.specs.declared.Question.TheVariants.{Bound}
use Rattle.elder.specs.Steps.{Collects, collect_step}
use Rattle.report.specs.Numbers.{numbers, report_outcome}
use Rattle.report.specs.declared.Statistics.{Statistics}

-- the nursery's

young-collected : (y : Nursery) → y.colls < most → y.proms ≤ most → collect_young y [] [] ≡ ok ([], emptied y 0)
unfolding collect_young survivors sort keep_if all_allocated
young-collected y small few = rw (no-young y, lt-ltb y.colls most small, le-leb (y.proms + 0) most (omega arith))

-- the elder's, by its answer

abbrev collected : Heap → Res (List Ptr × Elder)
collected h = collect_old h.old [] []

record Left (h : Heap) (v : List ℕ) : Type 0 where
  members : List Ptr
  elder : Elder
  is : collected h ≡ ok (members, elder)
  image : Image v (with_old elder h)

module _ {w v : List ℕ} {a : Result ℕ Question} (c : Collects (collect_step [] []) w a v) {h : Heap} (i : Image w h) where
  met : (b : Result ℕ Question) → a ≡ b → Meets (collect_step [] [] h) (number_answer b) v
  met b e = rw e at (c.does.does h i)

  left : (n : ℕ) → a ≡ Ok n → Left h v
  unfolding collect_step
  left n e = go (collected h) refl (met (Ok n) e)
    where
      go : (m : Res (List Ptr × Elder)) → collected h ≡ m → Meets (m >>= λ r. ok (length r.0, with_old r.1 h)) (ok n) v → Left h v
      go (ok x) is k = record { members = x.0; elder = x.1; is = is; image = k.1 }
      go (refuse q) is k = absurd k

  refused : (q : Question) → a ≡ Err q → collected h ≡ refuse (number q)
  unfolding collect_step
  refused q e = go (collected h) refl (met (Err q) e)
    where
      go : (m : Res (List Ptr × Elder)) → collected h ≡ m → Meets (m >>= λ r. ok (length r.0, with_old r.1 h)) (refuse (number q)) v → collected h ≡ refuse (number q)
      go (ok x) is k = absurd k
      go (refuse p) is k = rw k is

-- `report_formed`

module _ {w : List ℕ} (s : Statistics) (r : Reads (λ h. statistics h) w (numbers s)) (i : Image w (decode w)) where
  abbrev asked : Outcome
  asked = reported w (report (decode w))

  young-is : (decode w).young.colls ≡ s.nursery.collections
  unfolding statistics numbers
  young-is = ap (λ (l : List ℕ). get_or l 0 0) (r.reads _ i)

  pub young-full : 4294967295 ≤ s.nursery.collections → asked ≡ report_outcome (Err Bound) w
  unfolding report collect_young reported report_outcome
  young-full k = rw (young-is, le-ltb s.nursery.collections most (rw most-is k))

  module _ (young : s.nursery.collections < 4294967295) {v : List ℕ} {a : Result ℕ Question} (c : Collects (collect_step [] []) w a v) where
    young-small : (decode w).young.colls < most
    young-small = rw (young-is, most-is) young

    emptied-young : collect_young (decode w).young [] [] ≡ ok ([], emptied (decode w).young 0)
    emptied-young = young-collected (decode w).young young-small i.fit.young.proms

    module _ (n : ℕ) (e : a ≡ Ok n) where
      pub empty-asks : Image v (decode v) × (((decode v).young.colls < most) × ((decode v).young.proms + 0 ≤ most))
      unfolding with_old
      empty-asks = let j = (left c i n e).image in rw (image-decode j) (j, (young-small, omega (arith, i.fit.young.proms)))

      pub report-done : {x : List ℕ} → Turns (on_young (λ y. emptied y 0)) v x → asked ≡ report_outcome (Ok s) x
      unfolding report reported report_outcome with_old with_young
      report-done t = let l = left c i n e in rw (emptied-young, l.is) (λ k. record { answer = ok (r.reads _ i k); image = sym (t.turns _ l.image).is k; roots = [] })

    pub report-refused : (q : Question) → a ≡ Err q → asked ≡ report_outcome (Err q) v
    unfolding report reported report_outcome
    report-refused q e = rw (emptied-young, refused c i q e, c.kept q e)
