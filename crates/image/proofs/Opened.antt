-- The answer of `check`, as the calls that start by opening an image take it.
use mathlib.Core.Path.{◌≡◌, refl, sym, ap, ◌∙◌}
use mathlib.Core.Bool.{Bool, true, false}
use mathlib.Core.List.{List}
use Rattle.std.specs.Prelude.{Result, Ok, Err}
use Prim.Native.Nat.{ℕ}
use Rattle.model.specs.Res.{Res, ok, refuse, ◌>>=◌, ask}
use Rattle.model.specs.Heap.{Heap}
use Rattle.model.specs.Image.{decode, sized, formed}
use Rattle.model.specs.Calls.{opened}
use Rattle.theorems.specs.Fit.{Image}
use Rattle.theorems.proofs.Image.{image-of}
use Rattle.question.specs.Question.{number, done_answer}
use Rattle.question.specs.declared.Question.{Question}
use Rattle.image.specs.Answers.{image_asked}

pub opened-by : (r : Result (Unit {0}) Question) (w : List ℕ) → done_answer r ≡ image_asked w → opened w ≡ (done_answer r >>= λ _. ok (decode w))
unfolding opened image_asked
opened-by r w e = rw e (go (sized w))
  where
    go : (t : Bool) → (ask 1 t >>= λ _. ask 2 (formed w) >>= λ _. ok (decode w)) ≡ ((ask 1 t >>= λ _. ask 2 (formed w)) >>= λ _. ok (decode w))
    go true = refl
    go false = refl

-- the image is formed, or the call refused

module _ (w : List ℕ) {r : Result (Unit {0}) Question} (e : done_answer r ≡ image_asked w) where
  passed : r ≡ Ok tt → (sized w ≡ true) × (formed w ≡ true)
  unfolding image_asked
  passed f = go (sized w) (formed w) (ap done_answer (sym f) ∙ e)
    where
      go : (a b : Bool) → ok tt ≡ (ask 1 a >>= λ _. ask 2 b) → (a ≡ true) × (b ≡ true)
      go true true k = (refl, refl)
      go true false k = cc
      go false b k = cc

  pub formed-image : r ≡ Ok tt → Image w (decode w)
  formed-image f = image-of w (passed f).0 (passed f).1

  pub formed-opened : {A : Type 0} (k : Heap → Res A) → r ≡ Ok tt → k (decode w) ≡ (opened w >>= k)
  unfolding opened
  formed-opened k f = rw ((passed f).0, (passed f).1)

  pub refused-opened : {A : Type 0} (k : Heap → Res A) (q : Question) → r ≡ Err q → refuse (number q) ≡ (opened w >>= k)
  unfolding image_asked opened
  refused-opened {A} k q f = go (sized w) (formed w) (ap done_answer (sym f) ∙ e)
    where
      go : (a b : Bool) → refuse (number q) ≡ (ask 1 a >>= λ _. ask 2 b) → refuse (number q) ≡ ((ask 1 a >>= λ _. ask 2 b >>= λ _. ok (decode w)) >>= k)
      go true true t = cc
      go true false t = let z : number q ≡ 2 = cc in ap refuse z
      go false b t = let z : number q ≡ 1 = cc in ap refuse z
