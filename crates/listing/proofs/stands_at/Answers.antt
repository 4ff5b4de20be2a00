use mathlib.Core.Path.{sym, ◌∙◌}
use borrow.Author.Rules.{rules}
use Rattle.model.specs.Listing.{longest_file}
use Rattle.listing.proofs.Standing.{stands-short}
use Rattle.listing.proofs.stands_at.Goals as goal

pub returns-then-file-le-FILE : goal.returns-then-file-le-FILE
unfolding longest_file
returns-then-file-le-FILE c = c.read_at.ensures ∙ sym (stands-short _ _ (search rules))
