use mathlib.Core.Path.{◌≡◌, refl}
use Prim.Native.Nat.{ℕ}
use Rattle.std.specs.Prelude.{None}
use Rattle.value.specs.declared.Pointer.{Pointer}
use Rattle.value.specs.declared.Value.{Value}
use Rattle.value.specs.declared.Value.TheVariants.{Uninitialized, Int, Bool, Float, Char, Pointer as PointerV}
use Rattle.value.specs.Value.{crossing}
use Rattle.value.proofs.Value.crossing.Goals as goal

plain_none : (own : ℕ) (v : Value) → ((p : Pointer) → v ≡ PointerV p → ⊥) → None ≡ crossing own v
unfolding crossing
plain_none own Uninitialized h = refl
plain_none own (Int x) h = refl
plain_none own (Bool x) h = refl
plain_none own (Float n x) h = refl
plain_none own (Char x) h = refl
plain_none own (PointerV p) h = absurd (h p refl)

pub returns-in_default : goal.returns-in_default
returns-in_default c = plain_none c.args.own c.args.self c.in_default.not-Pointer
