use native.Mathlib.Omega.{arith}
use Rattle.fields.proofs.Parts.{sized-in, n-is}
use Rattle.fields.proofs.Turned.{cell_room, cell-put}
use Rattle.fields.proofs.Parts.{sized-in}
use Rattle.fields.proofs.put_young_cell.Goals as goal

pub layout_of-l-requires : goal.layout_of-l-requires
layout_of-l-requires c = sized-in c.requires.image

pub overflow_mul-i : goal.overflow_mul-i
overflow_mul-i c =
    let pre = c.requires in
    omega (arith, n-is pre.image, (sized-in pre.image).bounds.n, pre.i_bound)

pub copy_words-requires : goal.copy_words-requires
copy_words-requires c =
    let pre = c.requires in
    omega (arith, cell_room c.layout_of-l.ensures c.args.i pre.i_bound pre.image, c.args.cell.one)

pub returns : goal.returns
returns c =
    let pre = c.requires in
    cell-put c.layout_of-l.ensures c.args.i pre.i_bound _ c.args.cell.one c.args.cell.whole c.copy_words.ensures
