use Rattle.std.proofs.Common.{arith}
use Rattle.std.proofs.lemmas.Bool.Decides.{nat_tests}
use Rattle.model.specs.Image.{cursor_in}
use Rattle.image.proofs.form.cursor_in.Goals as goal

pub returns-then-cursor-n : goal.returns-then-cursor-n
unfolding cursor_in
returns-then-cursor-n c = grind (arith, nat_tests)

pub returns-then-n-eq0 : goal.returns-then-n-eq0
unfolding cursor_in
returns-then-n-eq0 c = grind (arith, nat_tests)

pub returns-else-n-eq0 : goal.returns-else-n-eq0
unfolding cursor_in
returns-else-n-eq0 c = grind (arith, nat_tests)
