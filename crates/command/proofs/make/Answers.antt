use mathlib.Core.Path.{sym}
use Prim.Native.Nat.{◌≤◌}
use lib.ListN.{length}
use lib.Seq.{length-take-le}
use Rattle.image.proofs.Bounds.{said-no, said-yes}
use Rattle.command.proofs.Making.{make-refused, make-sized, make-fits, make-always, make-done}
use Rattle.command.proofs.make.Goals as goal
use Rattle.command.proofs.make.Goals.{After-unwrap-words}

-- the words fit
fits : (c : After-unwrap-words) → c.unwrap-words.result ≤ length c.args.buffer.now
fits c = make-fits c.args.buffer.now _ c.requires (said-yes c.is_bounded.ensures c.if-not-is_bounded.false) c.image_words.ensures c.unwrap-words.ensures

pub returns-then-not-is_bounded : goal.returns-then-not-is_bounded
returns-then-not-is_bounded c = make-refused _ _ (said-no c.is_bounded.ensures c.if-not-is_bounded.true)

pub unwrap-words-requires : goal.unwrap-words-requires
unwrap-words-requires c =
    make-sized c.args.buffer.now _ c.requires (said-yes c.is_bounded.ensures c.if-not-is_bounded.false) c.image_words.ensures

pub slice_bounds-fresh-end : goal.slice_bounds-fresh-end
slice_bounds-fresh-end c = fits c

pub slice_bounds-fresh-end-2 : goal.slice_bounds-fresh-end-2
slice_bounds-fresh-end-2 c = sym (length-take-le _ _ (fits (goal.at.slice_bounds-fresh-end-2 c).After-unwrap-words))

pub returns : goal.returns
returns c =
    make-done _ _ c.requires (said-yes c.is_bounded.ensures c.if-not-is_bounded.false) c.image_words.ensures c.unwrap-words.ensures _ _ c.fresh.ensures c.in_ok-fresh.was

pub returns-in_err-fresh : goal.returns-in_err-fresh
returns-in_err-fresh c =
    absurd (make-always _ _ c.requires (said-yes c.is_bounded.ensures c.if-not-is_bounded.false) c.image_words.ensures c.unwrap-words.ensures _ _ c.fresh.ensures c.in_err-fresh.was)
