use Rattle.reader.proofs.Places.{stands-none}
use Rattle.reader.proofs.next_at.Goals as goal

pub returns-then-file-at : goal.returns-then-file-at
returns-then-file-at c = stands-none c.args.file.now c.args.at c.if-file-at.true
