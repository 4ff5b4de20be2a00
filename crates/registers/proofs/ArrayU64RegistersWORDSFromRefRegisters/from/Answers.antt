use mathlib.Core.Path.{◌≡◌, ◌∙◌}
use mathlib.Core.List.{[]}
use native.Mathlib.Omega.{arith}
use lib.ListN.{length}
use borrow.Author.Rules.{rules}
use Rattle.registers.specs.Cells.{unset}
use Rattle.registers.proofs.Values.{good-whole}
use Rattle.registers.proofs.Roots.{cells-flat}
use Rattle.registers.proofs.ArrayU64RegistersWORDSFromRefRegisters.from.Goals as goal

pub returns : goal.returns
returns c =
    let items = c.map-cells.ensures.items in
    let long : length c.args.s.now.cells ≡ 16 = search rules in
    let all = c.copy_from_slice.ensures.after ∙ c.as_flattened.ensures.value ∙ cells-flat c.args.s.now.cells c.map-cells.result (search rules) (λ i h. (items.at i unset [] (omega (arith, long))).2.met) in
    (all, λ g. rw all (good-whole c.args.s.now g))
