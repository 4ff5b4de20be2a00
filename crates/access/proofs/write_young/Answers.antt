use mathlib.Core.Path.{◌≡◌, refl, sym, ap, ◌∙◌}
use mir.Syntax.{w64}
use mir.Val.{of_z}
use Rattle.model.specs.Image.{decode}
use Rattle.model.specs.Collector.{young_at}
use Rattle.trace.specs.Words.{pointer}
use Rattle.question.proofs.Passing.{refused_as}
use Rattle.fields.proofs.Parts.{n-of}
use Rattle.access.specs.Access.{place_answer}
use Rattle.access.proofs.Answers.{young-inside}
use Rattle.access.proofs.Writes.{left-refused, young-written, young-nowhere}
use Rattle.access.proofs.write_young.Goals as goal
use Rattle.access.proofs.write_young.Goals.{After-index}

found : (c : After-index) → place_answer c.index.result ≡ young_at (decode c.args.image.now) (pointer 0 c.args.p.base (of_z w64 c.args.p.offset))
found c =
    c.index.ensures (decode c.args.image.now) ((n-of c.header_of-n.ensures.sizes).reads _ c.requires)

pub store_young-requires : goal.store_young-requires
store_young-requires c = record {
  image = c.requires;
  i_bound = young-inside _ _ _ (found (goal.at.store_young-requires c).After-index) c.in_ok-i.was;
}

pub returns : goal.returns
returns c =
    rw (young-written c.args.image.now c.args.p.base (of_z w64 c.args.p.offset) _ _ (sym (found (goal.at.returns c).After-index) ∙ ap place_answer c.in_ok-i.was)) at c.store_young.ensures

pub returns-in_err-i : goal.returns-in_err-i
returns-in_err-i c =
    rw (refused_as c.from_residual.result _ c.from_residual.ensures.1)
    (left-refused _ (young-nowhere c.args.image.now c.args.p.base (of_z w64 c.args.p.offset) _ _ (sym (found (goal.at.returns-in_err-i c).After-index) ∙ ap place_answer c.in_err-i.was)) refl)
