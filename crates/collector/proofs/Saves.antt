-- An image saved in front of scratch, and put back.
use mathlib.Core.Path.{◌≡◌, sym, ap, ◌∙◌}
use mathlib.Core.List.{List}
use Prim.Native.Nat.{ℕ, ◌+◌, ◌-◌, ◌*◌, ◌^◌, ◌≤◌, ◌<◌}
use native.Mathlib.Omega.{arith}
use lib.ListN.{length, take, drop, replicate, take-append-drop}
use lib.Seq.{paste, take-paste, length-take-le, take_all, drop-drop}
use Rattle.model.specs.Lists.{sum}
use Rattle.model.specs.Records.{Cell}
use Rattle.model.specs.Heap.{Sizes, in_use}
use Rattle.model.specs.Image.{sizes_of, decode}
use Rattle.theorems.specs.Fit.{Image}
use Rattle.theorems.proofs.Kept.{sizes-of}
use Rattle.words.specs.Words.{padded}
use Rattle.image.specs.Places.{old_cells_at}
use Rattle.slots.specs.Slots.{Packed, slots_of}
use Rattle.slots.proofs.Counts.{packed-sum, packed-fits, packed-rest}
use Rattle.slots.proofs.Parts.{lent, lent_is, lent_length}
use Rattle.image.specs.Laid.{Laid}
use Rattle.image.specs.declared.places.Layout.{Layout}
use Rattle.layout.proofs.Tail.{image-says-sized, parts-formed}
use Rattle.collector.specs.Saving.{SavedTo}

-- the first k words copied to the front of others
module _ (k : ℕ) (w : List ℕ) (h : k ≤ length w) where
  pub part_length : k ≡ length (take k w)
  part_length = sym (length-take-le k w h)

  copied : (s : List ℕ) {s' : List ℕ} → s' ≡ paste s 0 (take k w) (length (take k w)) → take k s' ≡ take k w
  copied s {s'} e =
      let n : ℕ = length (take k w) in
      let m : k ≡ 0 + n = omega (arith, part_length) in
      ap (λ (j : ℕ). take j s') m ∙ ap (take (0 + n)) e ∙ take-paste s 0 (take k w) n (omega arith) (omega arith) ∙ take_all n (take k w) (omega arith)

-- `save`
module _ {w : List ℕ} (i : Image w (decode w)) {l : Layout} (p : Laid w l) where
  abbrev lens : List ℕ
  lens = take (l.young - l.slots) (drop l.slots w)

  abbrev slots : List (List Cell)
  slots = slots_of lens (lent l.old w)

  packed : Packed lens (lent l.old w) slots
  packed = parts-formed i p

  old-inside : l.old ≤ length w
  old-inside = omega (arith, p.end)

  pub lengths-fit : length w < 2 ^ 64 → sum lens < 2 ^ 64
  lengths-fit h = packed-fits packed (omega (arith, lent_length w l.old old-inside))

  module _ (used : ℕ) (e : used ≡ sum lens) where
    used-is : used ≡ in_use slots
    used-is = e ∙ packed-sum packed

    pub end-inside : l.old + 3 * used ≤ length w
    end-inside = omega (arith, used-is, packed.fits, lent_length w l.old old-inside, old-inside)

    rest-zero : drop (l.old + 3 * used) w ≡ replicate (length w - (l.old + 3 * used)) 0
    rest-zero =
        let n : length (lent l.old w) - 3 * used ≡ length w - (l.old + 3 * used) = omega (arith, lent_length w l.old old-inside) in
        sym (drop-drop (3 * used) l.old w)
        ∙ ap (drop (3 * used)) (sym (lent_is w l.old old-inside))
        ∙ packed-rest packed (3 * used) (omega (arith, used-is))
        ∙ ap (λ (k : ℕ). replicate k 0) n

    rest-is : padded (take (l.old + 3 * used) w) (length w) ≡ w
    unfolding padded
    rest-is = rw (← part_length (l.old + 3 * used) w end-inside, ← rest-zero) (take-append-drop (l.old + 3 * used) w)

    reaches : old_cells_at (decode w).size.n (decode w).size.s ≤ l.old + 3 * used
    unfolding sizes_of
    reaches =
        let z : (decode w).size ≡ sizes_of w = sizes-of w in
        omega (arith, ap (λ (z : Sizes). z.n) z, ap (λ (z : Sizes). z.s) z, (image-says-sized i).long, p.c, p.end)

    pub saved-to : (s : List ℕ) {s' : List ℕ} → s' ≡ paste s 0 (take (l.old + 3 * used) w) (length (take (l.old + 3 * used) w)) → SavedTo w (l.old + 3 * used) s'
    saved-to s q = record { front = copied (l.old + 3 * used) w end-inside s q; rest = rest-is; reaches = reaches; inside = end-inside }

pub ruleset saves = (part_length, lengths-fit, end-inside)
