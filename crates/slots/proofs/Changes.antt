-- What shows that words hold the slots that they should.
use mathlib.Core.Path.{◌≡◌, ap, sym, ◌∙◌}
use mathlib.Core.Bool.{true}
use mathlib.Core.List.{List, ◌++◌, map, append_assoc}
use Prim.Native.Nat.{ℕ, ◌+◌, ◌*◌, ◌≤◌}
use native.Mathlib.Omega.{arith}
use lib.ListN.{length, take, drop, length-append, length-drop}
use lib.Seq.{length-take-le, take_at, drop_at}
use Rattle.model.specs.Lists.{flat}
use Rattle.model.specs.Records.{Cell, cell_words, all_valid}
use Rattle.model.specs.Heap.{in_use}
use Rattle.theorems.proofs.Cells.{words-length}
use Rattle.words.specs.Words.{padded}
use Rattle.words.proofs.Laws.{padded-length}
use Rattle.slots.specs.Slots.{Packed, Elder, Changed, between}
use Rattle.slots.proofs.Parts.{take_put, drop-put, between_put, parts}

-- w₀ became w, of which only lengths differ, and w then got the cells' words ys
pub changed : {s at : ℕ} {w₀ : List ℕ} (w : List ℕ) → s ≤ at → at ≤ length w → between s at w ≡ between s at w₀ → (rs : List (List Cell)) → take s w ≡ map length rs → (n : ℕ) → in_use rs * 3 ≤ n → all_valid (flat rs) ≡ true
    → (ys : List ℕ) → ys ≡ padded (cell_words (flat rs)) n → Changed s at w₀ (take at w ++ ys) rs
unfolding in_use
changed {s} {at} w order inside same rs lens n fits valid ys e =
    let l : length ys ≡ n = ap length e ∙ padded-length (cell_words (flat rs)) n (omega (arith, words-length (flat rs))) in
    record {
      elder = record {
        order = order;
        inside = omega (arith, length-append (take at w) ys, length-take-le at w inside);
        packed = rw (take_put w at inside ys s order, drop-put w at inside ys) (record { lens = lens; cells = e ∙ ap (padded (cell_words (flat rs))) (sym l); fits = omega arith; valid = valid });
      };
      same = between_put w at inside ys s ∙ same;
    }

-- words in three parts: lengths, other words, the cells' words
module _ {s at : ℕ} (ls ms ws : List ℕ) (ks : length ls ≡ s) (km : s + length ms ≡ at) where
  abbrev joint : List ℕ
  joint = ls ++ (ms ++ ws)

  front_length : length (ls ++ ms) ≡ at
  front_length = omega (arith, length-append ls ms)

  lens-part : take s joint ≡ ls
  lens-part = take_at ls (ms ++ ws) s ks

  pub joint-cells : drop at joint ≡ ws
  joint-cells = rw (← append_assoc ls ms ws) (drop_at (ls ++ ms) ws at front_length)

  between-part : between s at joint ≡ ms
  unfolding between
  between-part = rw (← append_assoc ls ms ws, take_at (ls ++ ms) ws at front_length) (drop_at ls ms s ks)

  pub joint-elder : {ss : List (List Cell)} → Packed ls ws ss → Elder s at joint ss
  joint-elder e = record {
    order = omega arith;
    inside = omega (arith, length-append ls (ms ++ ws), length-append ms ws);
    packed = rw (lens-part, joint-cells) e;
  }

  pub joint-changed : {v : List ℕ} {rs : List (List Cell)} → Changed s at joint v rs → length v ≡ length joint → v ≡ map length rs ++ (ms ++ padded (cell_words (flat rs)) (length ws))
  joint-changed {v} {rs} c k =
      let cells : drop at v ≡ padded (cell_words (flat rs)) (length ws) =
      c.elder.packed.cells ∙ ap (padded (cell_words (flat rs))) (length-drop at v ∙ omega (arith, length-append ls (ms ++ ws), length-append ms ws)) in
      parts v s at c.elder.order ∙ rw (c.elder.packed.lens, c.same, between-part, cells)
