-- Steps one after the other.
use mathlib.Core.Path.{◌≡◌, refl, sym, ap, ◌∙◌}
use mathlib.Core.List.{List, [], ◌∷◌, ◌++◌}
use Prim.Native.Nat.{ℕ}
use Rattle.std.proofs.Common.{Result, Ok, Err}
use Rattle.question.specs.declared.Question.{Question}
use Rattle.cycle.specs.declared.turns.Gave.{Gave}
use Rattle.model.specs.Res.{Res, ok, refuse, ◌>>=◌, each}
use Rattle.model.specs.Heap.{Heap}
use Rattle.theorems.specs.Does.{Meets, Does}
use Rattle.theorems.proofs.Does.{does-then, does-same}
use Rattle.changes.proofs.Laws.{each_append}

abbrev pub map_res : {A B : Type 0} → (A → B) → Res A → Res B
map_res f (ok a) = ok (f a)
map_res f (refuse q) = refuse q

module _ {A B : Type 0} where
  -- what is answered, made another thing
  pub does-map : {step : Heap → Res (A × Heap)} {w v : List ℕ} {r : Res A} (f : A → B) → Does step w r v → Does (λ h. step h >>= λ x. ok (f x.0, x.1)) w (map_res f r) v
  does-map {step} {w} {v} {r} f d = record { does = λ h i. go (step h) r (d.does h i) }
    where
      go : (m : Res (A × Heap)) (r : Res A) → Meets m r v → Meets (m >>= λ x. ok (f x.0, x.1)) (map_res f r) v
      go (ok x) (ok a) k = (ap f k.0, k.1)
      go (ok x) (refuse q) k = absurd k
      go (refuse q) (ok a) k = absurd k
      go (refuse q) (refuse p) k = k

-- what is given, made another thing
abbrev pub map_gave : (Gave → Gave) → Result Gave Question → Result Gave Question
map_gave f (Ok g) = Ok (f g)
map_gave f (Err q) = Err q

-- a list of steps, each on what the ones before left

module _ {P X : Type 0} (f : X → P × Heap → Res (P × Heap)) (start : P) where
  abbrev all : List X → Heap → Res (P × Heap)
  all xs h = each f xs (start, h)

  pub does-none : {w : List ℕ} → Does (all []) w (ok start) w
  does-none = record { does = λ h i. (refl, i) }

  module _ {w u v : List ℕ} {p : P} (xs : List X) (d : Does (all xs) w (ok p) u) (x : X) where
    pub does-more : {r : Res P} → Does (λ h. f x (p, h)) u r v → Does (all (xs ++ x ∷ [])) w r v
    does-more {r} e = does-same (λ h i. go h) (does-then (λ q h. f x (q, h)) d e)
      where
        last : (m : Res (P × Heap)) → m ≡ (m >>= each f [])
        last (ok b) = refl
        last (refuse q) = refl

        one : (m : Res (P × Heap)) → (m >>= λ b. f x (b.0, b.1)) ≡ (m >>= each f (x ∷ []))
        one (ok b) = last (f x b)
        one (refuse q) = refl

        go : (h : Heap) → (all xs h >>= λ b. f x (b.0, b.1)) ≡ all (xs ++ x ∷ []) h
        go h = one (all xs h) ∙ sym (each_append f xs (x ∷ []) (start, h))

    pub does-stop : (ys : List X) {q : ℕ} → Does (λ h. f x (p, h)) u (refuse q) v → Does (all (xs ++ x ∷ ys)) w (refuse q) v
    does-stop ys {q} e = does-same (λ h i. go h) (does-then (λ q h. f x (q, h) >>= each f ys) d (record { does = λ h i. stopped (f x (p, h)) (e.does h i) }))
      where
        stopped : (m : Res (P × Heap)) → Meets m (refuse q) v → Meets (m >>= each f ys) (refuse q) v
        stopped (ok b) k = absurd k
        stopped (refuse n) k = k

        one : (m : Res (P × Heap)) → (m >>= λ b. f x (b.0, b.1) >>= each f ys) ≡ (m >>= each f (x ∷ ys))
        one (ok b) = refl
        one (refuse n) = refl

        go : (h : Heap) → (all xs h >>= λ b. f x (b.0, b.1) >>= each f ys) ≡ all (xs ++ x ∷ ys) h
        go h = one (all xs h) ∙ sym (each_append f xs (x ∷ ys) (start, h))
