use mathlib.Core.Path.{◌≡◌}
use mir.Syntax.{w64}
use mir.Val.{of_z}
use Rattle.model.specs.Image.{decode}
use Rattle.model.specs.Collector.{young_at}
use Rattle.trace.specs.Words.{pointer}
use Rattle.question.proofs.Passing.{refused_as}
use Rattle.fields.proofs.Parts.{n-of}
use Rattle.access.specs.Access.{place_answer}
use Rattle.access.proofs.Answers.{young-refused, young-loaded, young-inside}
use Rattle.access.proofs.read_young.Goals as goal
use Rattle.access.proofs.read_young.Goals.{After-index}

found : (c : After-index) → place_answer c.index.result ≡ young_at (decode c.args.image.words.now) (pointer 0 c.args.p.base (of_z w64 c.args.p.offset))
found c =
    c.index.ensures (decode c.args.image.words.now) ((n-of c.header_of-n.ensures.sizes).reads _ c.args.image.formed)

pub young_value-requires : goal.young_value-requires
young_value-requires c = young-inside _ _ _ (found (goal.at.young_value-requires c).After-index) c.in_ok-i.was

pub returns : goal.returns
returns c = young-loaded _ _ _ (found (goal.at.returns c).After-index) _ _ c.in_ok-i.was c.young_value.ensures

pub returns-in_err-i : goal.returns-in_err-i
returns-in_err-i c =
    rw (refused_as c.from_residual.result _ c.from_residual.ensures.1) (young-refused _ _ _ (found (goal.at.returns-in_err-i c).After-index) _ c.in_err-i.was)
