-- What holds of an answer, through the steps that lead to it.
use mathlib.Core.Path.{◌≡◌, refl}
use mathlib.Core.Bool.{Bool, true, false}
use mathlib.Core.List.{List, [], ◌∷◌}
use Prim.Native.Nat.{ℕ}
use Rattle.model.specs.Res.{Res, ok, refuse, ◌>>=◌, ask, each}
use Rattle.theorems.specs.Holds.{Holds, such, none}

module _ {A B : Type 0} where
  pub bind : {P : A → Type 0} {Q : B → Type 0} {m : Res A} (f : A → Res B) → Holds P m → ((a : A) → P a → Holds Q (f a)) → Holds Q (m >>= f)
  bind f (such {a = a} h) g = g a h
  bind f none g = none

  -- no more is known of the answer than that it is one
  pub bind' : {Q : B → Type 0} (m : Res A) (f : A → Res B) → ((a : A) → m ≡ ok a → Holds Q (f a)) → Holds Q (m >>= f)
  bind' (ok a) f g = g a refl
  bind' (refuse q) f g = none

module _ {A B : Type 0} where
  -- a property of what is left to do and of the state
  pub each_holds : (I : List A → B → Type 0) (f : A → B → Res B) → ((a : A) (l : List A) (b : B) → I (a ∷ l) b → Holds (I l) (f a b)) → (l : List A) (b : B) → I l b → Holds (I []) (each f l b)
  each_holds I f s [] b i = such i
  each_holds I f s (a ∷ l) b i = bind (each f l) (s a l b i) (λ c h. each_holds I f s l c h)

module _ {A : Type 0} where
  pub asked : {Q : A → Type 0} (q : ℕ) (b : Bool) (f : Unit {0} → Res A) → (b ≡ true → Holds Q (f tt)) → Holds Q (ask q b >>= f)
  asked q true f g = g refl
  asked q false f g = none

  pub weaken : {P Q : A → Type 0} {m : Res A} → Holds P m → ((a : A) → P a → Q a) → Holds Q m
  weaken (such {a = a} h) g = such (g a h)
  weaken none g = none

  pub both : {P Q : A → Type 0} {m : Res A} → Holds P m → Holds Q m → Holds (λ a. P a × Q a) m
  both {P} {Q} (such {a = a} h) k = pair k
    where
      pair : Holds Q (ok a) → Holds (λ a. P a × Q a) (ok a)
      pair (such k) = such (h, k)
  both none k = none

pub asked_is : (q : ℕ) (b : Bool) → Holds (λ _. b ≡ true) (ask q b)
asked_is q true = such refl
asked_is q false = none

-- an answer that is known

holds-ok : {A : Type 0} {P : A → Type 0} {a : A} → Holds P (ok a) → P a
holds-ok (such p) = p

pub holds_at : {A : Type 0} {P : A → Type 0} {m : Res A} {a : A} → Holds P m → m ≡ ok a → P a
holds_at h e = holds-ok (rw e at h)
