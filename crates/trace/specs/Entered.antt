-- Members that are entered in lent words.
use Rattle.std.specs.Prelude.{◌≡◌, List, ◌*◌, ◌≤◌, length}
use Rattle.model.specs.Reach.{enter}
use Rattle.model.specs.Records.{Ptr, same_ptr}
use Rattle.trace.specs.declared.Members.{Members}
use Rattle.trace.specs.Words.{members}

-- those that have been entered
abbrev pub entries : Members → List Ptr
entries l = members l.count l.words.now

-- now they are these, still in the words that were lent: whoever lent them knows by `same` what stands there at the end
pub record Becomes (old new : Members) (ps : List Ptr) : Type 0 where
  pub is : entries new ≡ ps
  pub len : length new.words.now ≡ length old.words.now
  pub same : new.words.ghost_name ≡ old.words.ghost_name

abbrev pub Entered : Members → Members → List Ptr → Type 0
Entered old new ps = Becomes old new (enter same_ptr (entries old) ps)

-- the words have room for these too
pub record Room (l : Members) (ps : List Ptr) : Type 0 where
  pub fits : 3 * length (enter same_ptr (entries l) ps) ≤ length l.words.now
