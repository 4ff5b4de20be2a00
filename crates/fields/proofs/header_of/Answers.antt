use mathlib.Core.Path.{sym, ◌∙◌}
use Rattle.model.specs.Image.{encode}
use Rattle.fields.proofs.Parts.{word-is, sizes-is}
use Rattle.fields.proofs.header_of.Goals as goal

pub returns : goal.returns
unfolding encode
returns c = record {
  sizes = record { reads = λ h i. sym (c.of.ensures ∙ sizes-is i) };
  cursor = word-is _;
  young_collections = word-is _;
  promotions = word-is _;
  old_collections = word-is _;
}
