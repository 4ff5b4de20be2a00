use mathlib.Core.Path.{refl}
use Rattle.fields.proofs.Counts.{bar-loads, bar-put}
use native.Mathlib.Omega.{arith}
use Rattle.fields.proofs.Parts.{sized-in}
use Rattle.fields.proofs.put_barrier.Goals as goal

pub slice_bounds-store-end : goal.slice_bounds-store-end
slice_bounds-store-end c = omega (arith, (sized-in c.requires.image).long)

pub store-requires : goal.store-requires
store-requires c =
    let p = c.places_of-p.ensures in
    (bar-loads _ p.counts.0 p.counts.1 refl c.requires.image).1

pub returns : goal.returns
returns c =
    let p = c.places_of-p.ensures in
    bar-put _ p.counts.0 p.counts.1 p.flag.0 c.requires.fit_barrier c.store.ensures c.flag_word.ensures
