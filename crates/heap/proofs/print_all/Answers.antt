use mathlib.Core.Path.{refl}
use Rattle.heap.proofs.Printing.{print-none, print-fits, print-done}
use borrow.Author.Rules.{rules}
use Rattle.heap.proofs.print_all.Goals as goal

pub loop-run-init : goal.loop-run-init
loop-run-init c = (print-none (c.begin-run.ensures _ _) refl, search rules, search rules, search rules)

pub write_more-requires : goal.write_more-requires
write_more-requires c =
    print-fits c.loop-run.invariant.0 c.loop-run-test.true (search rules) c.fill-used.ensures c.requires

pub returns : goal.returns
returns c = print-done c.loop-run.invariant.0 (search rules)
