-- A command's registers as the reader finds them.
use mathlib.Core.Path.{◌≡◌, refl, sym}
use mathlib.Core.Bool.{Bool, true, false}
use mathlib.Core.List.{List, [], ◌∷◌}
use Prim.Native.Nat.{ℕ, ◌<◌}
use native.Mathlib.Omega.{arith}
use lib.Dec.{leb}
use borrow.Author.Tests.{le-leb, lt-leb}
use Rattle.model.specs.Lists.{all_at_most}
use Rattle.model.specs.Res.{ok, refuse, ◌>>=◌, ask}
use Rattle.model.specs.Command.{Command as ModelCommand, registers_of}
use Rattle.theorems.proofs.Kept.{refused-ok}
use Rattle.registers.specs.declared.Register.{Register}
use Rattle.reader.specs.declared.Command.{Command}
use Rattle.reader.specs.declared.Command.TheVariants.{New, Alloc, Set, Load, Store, Report, Figure}
use Rattle.reader.specs.Answer.{model_command, with_registers}

low : (r : Register) → leb r.number 15 ≡ true
low r = le-leb r.number 15 (omega (arith, r.below))

-- those of a command are among the sixteen
pub all_low : (c : Command) → all_at_most 15 (registers_of (model_command c)) ≡ true
unfolding registers_of all_at_most
all_low (New n t s c) = refl
all_low (Alloc r a) = rw (low r) refl
all_low (Set r a b o) = rw (low r) refl
all_low (Load a) = rw (low a.register, low a.pointer) refl
all_low (Store a) = rw (low a.register, low a.pointer) refl
all_low Report = refl
all_low (Figure r) = rw (low r) refl

pub taken : (c : Command) {m : ModelCommand} → model_command c ≡ m → ok (model_command c) ≡ with_registers m
taken c e = rw (← e, all_low c)

-- one that is not is refused

pub first-high : (r : ℕ) (rs : List ℕ) → 15 < r → all_at_most 15 (r ∷ rs) ≡ false
unfolding all_at_most
first-high r rs h = rw (lt-leb r 15 h)

pub second-high : (r : Register) (p : ℕ) → 15 < p → all_at_most 15 (r.number ∷ p ∷ []) ≡ false
unfolding all_at_most
second-high r p h = rw (low r, lt-leb p 15 h)

-- what an answer says of the registers

pub by_true : {m : ModelCommand} (c : ModelCommand) (t : Bool) → ok m ≡ (ask 12 t >>= λ _. ok c) → (t ≡ true) × (m ≡ c)
by_true c true e = (refl, cc)
by_true c false e = absurd (refused-ok (sym e))

pub by_false : {q : ℕ} (c : ModelCommand) (t : Bool) → refuse q ≡ (ask 12 t >>= λ _. ok c) → (t ≡ false) × (q ≡ 12)
by_false c true e = absurd (refused-ok e)
by_false c false e = (refl, cc)
