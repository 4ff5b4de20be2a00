-- The moves as a loop takes them: an entry's three words with its new base.
use Rattle.std.proofs.Common.{◌≡◌, ℕ, zero, suc, ◌+◌, ◌*◌, ◌/◌, ◌<◌, List, length, get_or, take, drop, [], min, Bor, Iter, Option, Some, None, refl, ap, ◌∙◌, arith}
use Rattle.std.specs.declared.iter.Zip.{Zip}
use Rattle.std.specs.Simd.{first_chunks}
use lib.Seq.{get_or-take, get_or-drop, drop-drop}
use Rattle.std.proofs.iter.Yields.{fronts}
use Rattle.std.proofs.lemmas.Iterator.{zips}
use Rattle.std.proofs.lemmas.Slice.Zip.{zip_turn, zip_end}
use Rattle.std.specs.Iterator.{Yields}
use Rattle.std.specs.Iterator.Adapters.{zip_first, zip_second}
use Rattle.std.specs.Slice.Iter.{iter_rest}
use Rattle.model.specs.Records.{Ptr}
use Rattle.trace.specs.Words.{ptr_at}
use Rattle.pointers.specs.Steps.{member_move, move_at}

length-chunks : (n : ℕ) (w : List ℕ) → length (first_chunks 3 n w) ≡ n
length-chunks zero w = refl
length-chunks (suc n) w = ap suc (length-chunks n (drop 3 w))

chunk-at : (n : ℕ) (w : List ℕ) (i : ℕ) (d : List ℕ) → i < n → get_or (first_chunks 3 n w) i d ≡ take 3 (drop (3 * i) w)
chunk-at zero w i d h = absurd (omega arith)
chunk-at (suc n) w zero d h = refl
chunk-at (suc n) w (suc i) d h =
    let e : 3 + 3 * i ≡ 3 * suc i = omega arith in
    chunk-at n (drop 3 w) i d (omega arith) ∙ ap (take 3) (drop-drop (3 * i) 3 w ∙ ap (λ (k : ℕ). drop k w) e)

word-at : (w : List ℕ) (i j : ℕ) → j < 3 → get_or (take 3 (drop (3 * i) w)) j 0 ≡ get_or w (3 * i + j) 0
word-at w i j h = get_or-take 3 (drop (3 * i) w) j 0 h ∙ get_or-drop (3 * i) w j 0

-- how many moves there are
abbrev pub pairs : List ℕ → List ℕ → ℕ
pairs list bases = min (length list / 3) (length bases)

-- a loop over entries and bases takes the i-th move
pub record Taken (list bases : List ℕ) (i : ℕ) (x : Ptr × ℕ) : Type 0 where
  pub more : i < pairs list bases
  pub move : x ≡ move_at list bases i

-- the move that is made of it
pub moved-as : {list bases : List ℕ} {i new : ℕ} {p q : Ptr} {x : Ptr × ℕ} → x ≡ member_move p new → p ≡ q → Taken list bases i (member_move q new) → Taken list bases i x
moved-as {new = new} e f t = record { more = t.more; move = e ∙ ap (λ (p : Ptr). member_move p new) f ∙ t.move }

module _ (list bases : List ℕ) (xs : List (Bor (List ℕ) × Bor ℕ)) (s t u : Zip (Iter (List ℕ)) (Iter ℕ)) (r : Option (Bor (List ℕ) × Bor ℕ))
    (first : iter_rest (zip_first s) ≡ first_chunks 3 (length list / 3) list) (second : iter_rest (zip_second s) ≡ bases) (y : Yields (zips fronts fronts) s xs t) where
  pub pair-taken : (p : Bor (List ℕ) × Bor ℕ) → r ≡ Some p → zips fronts fronts t r u → Taken list bases (length xs) (member_move (ptr_at p.0.now 0) p.1.now)
  unfolding move_at ptr_at
  pair-taken p e z =
      let n : ℕ = length list / 3 in
      let i : ℕ = length xs in
      let turn = zip_turn (first_chunks 3 n list) bases xs s t u r first second y p e z in
      let more : i < n = omega (arith, turn.0, length-chunks n list) in
      let entry : p.0.now ≡ take 3 (drop (3 * i) list) = turn.2 [] ∙ chunk-at n list i [] more in
      record { more = omega (arith, turn.1); move = rw (turn.3 0, entry, word-at list i 1 (omega arith), word-at list i 2 (omega arith)) }

  pub pairs-end : r ≡ None → zips fronts fronts t r u → length xs ≡ pairs list bases
  pairs-end e z = zip_end (first_chunks 3 (length list / 3) list) bases xs s t u r first second y e z ∙ rw (length-chunks (length list / 3) list)
