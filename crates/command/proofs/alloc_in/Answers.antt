use Rattle.question.proofs.Passing.{refused_as}
use Rattle.command.proofs.Heaps.{none_there, some_there}
use lib.ListN.{length}
use mir.Syntax.{w64}
use mir.ValLaws.{to_z-of_z}
use Rattle.command.proofs.Allocating.{alloc-heapless, Lent, alloc-refused, roots-whole, alloc-acts}
use borrow.Author.Rules.{rules}
use mathlib.Core.Path.{refl}
use Rattle.command.proofs.alloc_in.Goals as goal
use Rattle.command.proofs.alloc_in.Goals.{After-from-roots}

lent : (c : After-from-roots)
    → Lent c.args.image.now c.args.registers.now c.from-roots.result (length c.args.scratch.now)
lent c =
    record { held = c.requires.held; there = some_there _ c.is_empty.ensures c.if-is_empty.false; good = c.requires.good; words = c.from-roots.ensures.0; long = search rules; room = c.requires.program_scratch_in_bounds }

pub returns-then-is_empty : goal.returns-then-is_empty
returns-then-is_empty c =
    alloc-heapless c.args.register.number _ c.requires.held c.requires.good (none_there _ c.is_empty.ensures c.if-is_empty.true) (refl, refl)

pub from_words-requires : goal.from_words-requires
from_words-requires c =
    let asked = rw (to_z-of_z w64 c.args.amount c.ranges.amount) at c.alloc_formed.ensures in
    roots-whole (lent (goal.at.from_words-requires c).After-from-roots) _ _ _ _ asked c.in_ok-a.was

pub returns : goal.returns
returns c =
    let asked = rw (to_z-of_z w64 c.args.amount c.ranges.amount) at c.alloc_formed.ensures in
    let at = c.in_ok-a.was in
    -- the walk tells of the answer's fields that the offset is an i64
    alloc-acts (lent (goal.at.returns c).After-from-roots) _ _ _ _ asked at c.from_words.result c.set.new.self _ c.from_words.ensures.cells c.from_words.ensures.good (search rules) c.set.ensures

pub returns-in_err-a : goal.returns-in_err-a
returns-in_err-a c =
    let asked = rw (to_z-of_z w64 c.args.amount c.ranges.amount) at c.alloc_formed.ensures in
    alloc-refused (lent (goal.at.returns-in_err-a c).After-from-roots) _ _ _ _ asked _ c.in_err-a.was (refused_as c.from_residual.result _ c.from_residual.ensures.1, refl)
