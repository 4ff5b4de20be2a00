use Rattle.trace.specs.Words.{listed}
use Rattle.slots.specs.Slots.{slots_in, Same}
use Rattle.slots.proofs.Packs.{Packing}
use Rattle.slots.proofs.Slots.pack.Given as goal

abbrev pub invariant-loop-b : goal.invariant-loop-b
invariant-loop-b l = Packing (listed l.members) (slots_in l.initial.self) l.s l.at l.initial.self.words.now l.self.words.now l.b l.ends.src l.ends.dst × Same l.initial.self l.self
