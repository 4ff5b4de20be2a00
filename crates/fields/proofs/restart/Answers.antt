use borrow.Author.Rules.{rules}
use Rattle.fields.proofs.Parts.{sized-in, header-kept}
use Rattle.fields.proofs.Turned.{restart-turns}
use Rattle.fields.proofs.restart.Goals as goal

pub layout_of-l-requires : goal.layout_of-l-requires
layout_of-l-requires c = sized-in c.requires.image

pub bounds-image-4 : goal.bounds-image-4
bounds-image-4 c = search (header-kept c.requires.image c.layout_of-l.ensures, rules)

pub bounds-image-5 : goal.bounds-image-5
bounds-image-5 c = search (header-kept c.requires.image c.layout_of-l.ensures, rules)

pub bounds-image-6 : goal.bounds-image-6
bounds-image-6 c = search (header-kept c.requires.image c.layout_of-l.ensures, rules)

pub returns : goal.returns
returns c =
    let pre = c.requires in
    restart-turns c.layout_of-l.ensures pre.collections_le_most.0 pre.collections_le_most.1 c.zero_from.ensures
