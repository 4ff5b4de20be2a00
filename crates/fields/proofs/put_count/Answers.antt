use native.Mathlib.Omega.{arith}
use Rattle.fields.proofs.Counts.{count-put}
use lib.ListN.{length-set}
use Rattle.fields.proofs.Parts.{sized-in}
use Rattle.fields.proofs.put_count.Goals as goal

pub bounds-image-p : goal.bounds-image-p
bounds-image-p c = omega (arith, (sized-in c.requires.image).long)

pub bounds-image-p-2 : goal.bounds-image-p-2
bounds-image-p-2 c = simp length-set (omega (arith, (sized-in c.requires.image).long))

pub returns : goal.returns
returns c =
    let pre = c.requires in
    let p = c.places_of-p.ensures in
    count-put _ _ _ pre.k_bound.0 pre.k_bound.1 (omega (arith, p.counts.0)) p.flag.0
