use borrow.Author.Rules.{rules}
use mathlib.Core.Path.{refl}
use native.Mathlib.Omega.{arith}
use lib.ListN.{get_or}
use mir.Syntax.{w32}
use mir.Val.{Fits}
use Rattle.fields.proofs.Parts.{most-is}
use Rattle.access.proofs.Crossing.{apart, apart-stores, absent-stores, count-stores}
use Rattle.access.proofs.counts.store_count.Goals as goal
use Rattle.access.proofs.counts.store_count.Goals.{After-from}

-- a count of a barrier is a u32
narrow : (c : After-from) → Fits w32 (get_or c.args.b.now.counts c.place-at.result 0)
narrow c = search rules

pub returns-in_default : goal.returns-in_default
returns-in_default c =
    let a = c.args in
    apart-stores a.own a.v a.b.now (apart a.own a.v _ c.in_default.ensures refl)

pub returns-then-not-b : goal.returns-then-not-b
returns-then-not-b c =
    let a = c.args in
    absent-stores a.own a.v a.b.now c.if-not-b.true

pub put_count-requires : goal.put_count-requires
put_count-requires c = record {
  image = search rules;
  k_bound = (omega arith, omega (arith, most-is, (narrow c).fits));
}

pub returns : goal.returns
returns c =
    let k = c.place-at in
    count-stores c.args.own c.args.v c.args.b.now c.in-Some.p c.in-Some.ensures c.if-not-b.false k.ensures c.from.ensures c.put_count.ensures
