-- Operations one after the other.
use mathlib.Core.Path.{◌≡◌, refl, subst}
use mathlib.Core.List.{List}
use Prim.Native.Nat.{ℕ}
use Rattle.model.specs.Res.{Res, ok, refuse, ◌>>=◌}
use Rattle.model.specs.Heap.{Heap}
use Rattle.model.specs.Image.{decode}
use Rattle.theorems.specs.Fit.{Image}
use Rattle.theorems.specs.Does.{Meets, Does}
use Rattle.theorems.proofs.Image.{image-decode}

module _ {A B : Type 0} where
  -- the first is answered: the second goes on where it left off
  pub does-then : {f : Heap → Res (A × Heap)} (g : A → Heap → Res (B × Heap)) {w u v : List ℕ} {a : A} {r : Res B}
      → Does f w (ok a) u → Does (g a) u r v → Does (λ h. f h >>= λ x. g x.0 x.1) w r v
  does-then {f} g {w} {u} {v} {a} {r} d e = record { does = λ h i. go h (f h) (d.does h i) }
    where
      go : (h : Heap) (m : Res (A × Heap)) → Meets m (ok a) u → Meets (m >>= λ x. g x.0 x.1) r v
      go h (ok x) k = subst (λ (y : A). Meets (g y x.1) r v) k.0 (e.does x.1 k.1)
      go h (refuse q) k = absurd k

  -- the first is refused: so is the whole
  pub does-refused : {f : Heap → Res (A × Heap)} (g : A → Heap → Res (B × Heap)) {w u v : List ℕ} {q : ℕ}
      → Does f w (refuse q) u → Does (λ h. f h >>= λ x. g x.0 x.1) w (refuse q) v
  does-refused {f} g {w} {u} {v} {q} d = record { does = λ h i. go (f h) (d.does h i) }
    where
      go : (m : Res (A × Heap)) → Meets m (refuse q) u → Meets (m >>= λ x. g x.0 x.1) (refuse q) v
      go (ok x) k = absurd k
      go (refuse p) k = k

module _ {A : Type 0} where
  -- the same step, said in another way
  pub does-same : {f g : Heap → Res (A × Heap)} {w v : List ℕ} {r : Res A} → ((h : Heap) → Image w h → f h ≡ g h) → Does f w r v → Does g w r v
  does-same {f} {g} {w} {v} {r} e d = record { does = λ h i. subst (λ (m : Res (A × Heap)). Meets m r v) (e h i) (d.does h i) }

-- an answered step leaves an image

module _ {A : Type 0} {step : Heap → Res (A × Heap)} {w v : List ℕ} {a : A} (i : Image w (decode w)) (d : Does step w (ok a) v) where
  pub answered : (x : A × Heap) × (step (decode w) ≡ ok x) × (a ≡ x.0) × (decode v ≡ x.1) × Image v (decode v)
  answered = go (step (decode w)) refl (d.does (decode w) i)
    where
      go : (m : Res (A × Heap)) → step (decode w) ≡ m → Meets m (ok a) v → (x : A × Heap) × (step (decode w) ≡ ok x) × (a ≡ x.0) × (decode v ≡ x.1) × Image v (decode v)
      go (ok x) e k = (x, e, k.0, image-decode k.1, rw (image-decode k.1) k.1)
      go (refuse q) e k = absurd k
