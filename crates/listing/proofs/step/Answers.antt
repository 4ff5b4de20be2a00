use mathlib.Core.Path.{◌≡◌}
use Rattle.std.specs.Prelude.{Some}
use borrow.Author.Rules.{rules}
use Rattle.reader.specs.Answer.{next_answer}
use Rattle.listing.specs.Left.{stands_at}
use Rattle.listing.proofs.Standing.{never_none}
use Rattle.listing.proofs.Advancing.{step-command, step-malformed}
use Rattle.listing.proofs.step.Goals as goal
use Rattle.listing.proofs.step.Goals.{After-unwrap_or}

stood_there : (c : After-unwrap_or) → next_answer (Some c.unwrap_or.result) ≡ stands_at c.args.file.now c.args.run.now.at
stood_there c = rw c.unwrap_or.ensures (never_none _ _ c.requires.at_in_bounds _ c.stands_at.ensures)

pub perform-requires : goal.perform-requires
perform-requires c = record {
  ready = c.requires.going.ready;
  program_words_in_bounds = (search rules, search rules);
}

pub returns-in-Ok : goal.returns-in-Ok
returns-in-Ok c =
    step-command c.requires.going c.requires.at_in_bounds (rw c.in-Ok.is at (stood_there (goal.at.returns-in-Ok c).After-unwrap_or)) c.perform.ensures

pub returns-in-Err : goal.returns-in-Err
returns-in-Err c =
    step-malformed c.requires.going c.requires.at_in_bounds (rw c.in-Err.is at (stood_there (goal.at.returns-in-Err c).After-unwrap_or))
