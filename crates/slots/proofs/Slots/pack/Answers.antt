use borrow.Author.Rules.{rules}
use Rattle.slots.proofs.Packs.{packs, same-both}
use Rattle.slots.proofs.Slots.pack.Goals as goal

pub loop-b-init : goal.loop-b-init
loop-b-init c = (search (packs, rules), search rules)

pub pack_one-ends-requires-clause-dst_le_src : goal.pack_one-ends-requires-clause-dst_le_src
pack_one-ends-requires-clause-dst_le_src c = (search (packs, rules), rw c.loop-b.invariant.1.at (search (packs, rules)))

pub loop-b-preserved : goal.loop-b-preserved
loop-b-preserved c =
    let w = rw c.loop-b.invariant.1.at at c.pack_one-ends.ensures.words_after in
    (search (packs, rules), same-both c.loop-b.invariant.1 c.pack_one-ends.ensures.same)

pub returns : goal.returns
returns c = record { changed = search (packs, rules); same = same-both c.loop-b.invariant.1 (search rules) }
