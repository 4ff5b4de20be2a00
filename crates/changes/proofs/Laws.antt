-- The model counts the changed cells one by one, among the others: that is `times`, by how many there are.
use mathlib.Core.Path.{◌≡◌, refl, sym, ap, ◌∙◌}
use mathlib.Core.Bool.{Bool, true, false, true≢false}
use mathlib.Core.List.{List, [], ◌∷◌, ◌++◌}
use Prim.Native.Nat.{ℕ}
use lib.ListN.{length}
use Rattle.model.specs.Lists.{cons_if, keep_if, flat}
use Rattle.model.specs.Res.{Res, ok, refuse, ◌>>=◌, each}
use Rattle.model.specs.Records.{Ptr, Cell, plain, ref}
use Rattle.model.specs.Barrier.{Barrier, count_in, count_out}
use Rattle.model.specs.Collector.{moved_to, holds, count_swap}
use Rattle.theorems.proofs.Members.{same_ptr-eq}
use Rattle.changes.specs.Changes.{times, count_change}

module _ {B : Type 0} where
  bind-same : {f g : B → Res B} (m : Res B) → ((b : B) → f b ≡ g b) → (m >>= f) ≡ (m >>= g)
  bind-same (ok b) h = h b
  bind-same (refuse q) h = refl

  bind_assoc : (m : Res B) (f g : B → Res B) → (m >>= f >>= g) ≡ (m >>= λ b. f b >>= g)
  bind_assoc (ok b) f g = refl
  bind_assoc (refuse q) f g = refl

module _ {A B : Type 0} (f : A → B → Res B) where
  pub each_append : (s t : List A) (b : B) → each f (s ++ t) b ≡ (each f s b >>= each f t)
  each_append [] t b = refl
  each_append (a ∷ s) t b = bind-same (f a b) (each_append s t) ∙ sym (bind_assoc (f a b) (each f s) (each f t))

  each-flat : (ss : List (List A)) (b : B) → each (each f) ss b ≡ each f (flat ss) b
  unfolding flat
  each-flat [] b = refl
  each-flat (s ∷ ss) b = bind-same (each f s b) (each-flat ss) ∙ sym (each_append s (flat ss) b)

holds-is : (p : Ptr) (c : Cell) → holds p c ≡ true → c ≡ ref p
unfolding holds
holds-is p (plain k v) e = absurd (true≢false (sym e))
holds-is p (ref q) e = ap ref (sym (same_ptr-eq p q e))

module _ (own : ℕ) (m : Ptr × ℕ) where
  module _ (c : Cell) (b : Barrier) where
    swap-held : holds m.0 c ≡ true → count_swap own m c b ≡ count_change own m b
    unfolding count_swap count_change
    swap-held e = rw (e, count_swap) (ap (λ (x : Cell). count_out own x b >>= count_in own (ref (moved_to m))) (holds-is m.0 c e))

    swap-other : holds m.0 c ≡ false → count_swap own m c b ≡ ok b
    unfolding count_swap
    swap-other e = rw (e, count_swap)

  pub each-times : (cs : List Cell) (b : Barrier) → each (count_swap own m) cs b ≡ times (length (keep_if (holds m.0) cs)) (count_change own m) b
  unfolding keep_if times
  each-times [] b = refl
  each-times (c ∷ cs) b = go (holds m.0 c) refl (each-times cs)
    where
      n : ℕ
      n = length (keep_if (holds m.0) cs)

      go : (t : Bool) → holds m.0 c ≡ t → ((d : Barrier) → each (count_swap own m) cs d ≡ times n (count_change own m) d)
          → (count_swap own m c b >>= each (count_swap own m) cs) ≡ times (length (cons_if t c (keep_if (holds m.0) cs))) (count_change own m) b
      go true e rest = rw (swap-held c b e) (bind-same (count_change own m b) rest)
      go false e rest = rw (swap-other c b e) (rest b)

  pub each-times-flat : (ss : List (List Cell)) (b : Barrier) → each (each (count_swap own m)) ss b ≡ times (length (keep_if (holds m.0) (flat ss))) (count_change own m) b
  each-times-flat ss b = each-flat (count_swap own m) ss b ∙ each-times (flat ss) b
