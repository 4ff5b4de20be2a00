-- 0 is never a refusal's number: it says that there is an answer, whose words are in `out`.
use mathlib.Core.Path.{◌≡◌, refl, sym, ap}
use mathlib.Core.List.{List}
use Prim.Native.Nat.{ℕ, ◌<◌}
use native.Mathlib.Omega.{arith}
use Rattle.model.specs.Res.{Res, ok, refuse}
use Rattle.model.specs.Calls.{Call, call}
use Rattle.theorems.proofs.Numbered.{call-refusal-positive}
use Rattle.heap_c.specs.Replies.{number_of, out_of, Answers}

told : (a : Res (List ℕ)) {before : List ℕ} {r : ℕ} {out : List ℕ} → ((q : ℕ) → a ≡ refuse q → 0 < q) → Answers a before r out → r ≡ 0 → a ≡ ok out
unfolding number_of out_of
told (ok words) above x e = ap ok (sym x.written)
told (refuse q) above x e = absurd (omega (arith, x.number, above q refl))

pub zero-answers : (c : Call) (w : List ℕ) {before : List ℕ} {r : ℕ} {out : List ℕ} → Answers (call c w).answer before r out → r ≡ 0 → (call c w).answer ≡ ok out
zero-answers c w = told (call c w).answer (λ q. call-refusal-positive c w)
