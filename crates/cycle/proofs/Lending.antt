-- The parts of scratch and of an image as they are lent, and what comes back.
use mathlib.Core.Path.{◌≡◌, sym, ap, ◌∙◌}
use mathlib.Core.Bool.{true}
use mathlib.Core.List.{List}
use Prim.Native.Nat.{ℕ, ◌+◌, ◌-◌, ◌*◌, ◌/◌, ◌≤◌, ◌<◌}
use native.Mathlib.Omega.{arith}
use lib.ListN.{length, get_or, take, drop, length-take, length-drop}
use Rattle.std.proofs.Common.{Result}
use Rattle.model.specs.Res.{Res}
use Rattle.model.specs.Records.{cell_words, all_valid, whole_cells}
use Rattle.model.specs.Barrier.{Barrier, masks}
use Rattle.model.specs.Heap.{Sizes, part}
use Rattle.model.specs.Image.{image_length, decode}
use Rattle.model.specs.Calls.{cells_in, scratch_length}
use Rattle.theorems.specs.Fit.{Image}
use Rattle.theorems.specs.Does.{Does}
use Rattle.theorems.proofs.Cells.{whole_words, words-in, whole_back, whole-valid}
use Rattle.theorems.proofs.Contents.{valid-all, all_valid_lem}
use Rattle.theorems.proofs.Does.{does-same}
use Rattle.theorems.proofs.Image.{encode-length}
use Rattle.theorems.proofs.Lists.{take_in, drop-in}
use Rattle.image.specs.Places.{lengths_at, young_cells_at}
use Rattle.slots.proofs.Parts.{returned, returned-is, take_put, drop-put}
use Rattle.image.specs.Laid.{Laid}
use Rattle.image.specs.declared.places.Layout.{Layout}
use Rattle.fields.specs.Fields.{Reads}
use Rattle.question.specs.declared.Question.{Question}
use Rattle.elder.specs.Steps.{place_step}
use Rattle.nursery.specs.Steps.{collected_answer}
use Rattle.nursery.specs.Steps as nursery
use Rattle.nursery.specs.declared.Collected.{Collected}
use Rattle.nursery.proofs.Parts.{promoted-words}
use Rattle.cycle.specs.Scratch.{young_in, parts_in, Saved, Front, CollectedIn}

abbrev sizes : List ℕ → Sizes
sizes w = (decode w).size

pub image-long : {w : List ℕ} → Image w (decode w) → length w ≡ image_length (sizes w)
image-long {w} i = ap length i.is ∙ encode-length (decode w) i.fit

pub size-is : {w : List ℕ} {n : ℕ} → Image w (decode w) → Reads (λ h. h.size.n) w n → n ≡ (sizes w).n
size-is {w} i r = sym (r.reads (decode w) i)

pub ruleset lengths = (image-long, size-is)

-- what stands before a tail that was lent stays
front-put : {k at : ℕ} (s ys : List ℕ) → at ≤ length s → at ≡ k → Front k s (returned at s ys)
front-put {k} {at} s ys h e = record { same = rw (returned-is s at h ys) (take_put s at h ys k (omega arith)) }

-- `collect_nursery`: question 4 says that scratch has room for the lists

module _ {w : List ℕ} (i : Image w (decode w)) (roots s : List ℕ) (room : scratch_length (sizes w) (length roots / 3) ≤ length s) where
  image-inside : length w ≤ length s
  unfolding scratch_length
  image-inside = omega (arith, image-long i)

  pub collected-in : {ms v : List ℕ} {b : Barrier} {answer : Result Collected Question} (ys : List ℕ) → Reads (λ h. h.old.bar) w b → ms ≡ masks b
      → Does (nursery.collect_step (cells_in roots) ms) w (collected_answer answer ys) v → CollectedIn w roots s answer v (returned (length w) s ys)
  collected-in {ms} {v} {b} {answer} ys bar e d =
      let list : drop (length w) (returned (length w) s ys) ≡ ys = rw (returned-is s (length w) image-inside ys) (drop-put s (length w) image-inside ys) in
      record {
        does = rw (← image-long i, list) (does-same (λ h j. rw (bar.reads h j, e)) d);
        front = front-put s ys image-inside (image-long i);
      }

-- `place_part`

module _ {w : List ℕ} (i : Image w (decode w)) {l : Layout} (p : Laid w l) where
  -- where the nursery's lengths and cells stand
  pub record Stands : Type 0 where
    pub lens : l.lens ≡ lengths_at
    pub size : l.slots - l.lens ≡ (sizes w).n
    pub young : l.young ≡ young_cells_at (sizes w).n (sizes w).s
    pub cells : l.old - l.young ≡ 3 * (sizes w).n
    pub end : l.old ≤ image_length (sizes w)
    pub behind : l.slots ≤ image_length (sizes w)

  pub stands : Stands
  unfolding image_length decode
  stands =
      let long : length w ≡ image_length (sizes w) = image-long i in
      let n : l.n ≡ (sizes w).n = p.n in
      let s : l.s ≡ (sizes w).s = p.s in
      let c : l.c ≡ (sizes w).c = p.c in
      let a = p.slots in
      let b = p.young in
      let d = p.old in
      let e = p.end in
      record { lens = omega arith; size = omega arith; young = omega arith; cells = omega arith; end = omega arith; behind = omega arith }

  pub lens-end : l.slots ≤ image_length (sizes w)
  lens-end = stands.behind

  pub cells-end : l.old ≤ image_length (sizes w)
  cells-end = stands.end

  module _ {s : List ℕ} (f : Saved (sizes w) s) where
    lens-are : take (l.slots - l.lens) (drop l.lens s) ≡ (young_in (sizes w) s).lens
    unfolding young_in
    lens-are = rw (stands.size, stands.lens)

    cells_are : take (l.old - l.young) (drop l.young s) ≡ take (3 * (sizes w).n) (drop (young_cells_at (sizes w).n (sizes w).s) s)
    cells_are = rw (stands.cells, stands.young)

    lens-long : length (young_in (sizes w) s).lens ≡ (sizes w).n
    unfolding young_in image_length
    lens-long = let long = f.long in simp (length-take, length-drop) (omega arith)

    cells-long : length (take (3 * (sizes w).n) (drop (young_cells_at (sizes w).n (sizes w).s) s)) ≡ 3 * (sizes w).n
    unfolding image_length
    cells-long = let long = f.long in simp (length-take, length-drop) (omega arith)

    module _ (b : ℕ) (some : 0 < get_or (young_in (sizes w) s).lens b 0) where
      pub part-inside : {lens cells : List ℕ} → lens ≡ take (l.slots - l.lens) (drop l.lens s) → cells ≡ take (l.old - l.young) (drop l.young s) → (b < length lens) × (3 * (b + get_or lens b 0) ≤ length cells)
      part-inside e g =
          let inside : b + get_or (young_in (sizes w) s).lens b 0 ≤ (sizes w).n = f.inside b some in
          rw (e, g, lens-are, cells_are, lens-long, cells-long) (omega arith, omega arith)

      valid-part : all_valid (parts_in (sizes w) s b) ≡ true
      unfolding parts_in part young_in
      valid-part =
          let ws : List ℕ = take (3 * (sizes w).n) (drop (young_cells_at (sizes w).n (sizes w).s) s) in
          let n : ℕ = get_or (young_in (sizes w) s).lens b 0 in
          valid-all _ (λ c m. all_valid_lem (cells_in ws) (whole-valid ws f.whole) c (drop-in b (cells_in ws) c (take_in n (drop b (cells_in ws)) c m)))

      module _ {words : List ℕ} (is : words ≡ take (3 * get_or (take (l.slots - l.lens) (drop l.lens s)) b 0) (drop (3 * b) (take (l.old - l.young) (drop l.young s)))) where
        words_are : words ≡ cell_words (parts_in (sizes w) s b)
        unfolding parts_in young_in
        words_are =
            let cells : take (l.old - l.young) (drop l.young s) ≡ cell_words (young_in (sizes w) s).cells = cells_are ∙ sym (whole_back _ f.whole) in
            is ∙ (λ j. take (3 * get_or (lens-are j) b 0) (drop (3 * b) (cells j))) ∙ promoted-words (young_in (sizes w) s) b

        pub part-whole : whole_cells words ≡ true
        part-whole = rw words_are (whole_words (parts_in (sizes w) s b) valid-part)

        pub part_placed : {answer : Res ℕ} {v : List ℕ} → Does (place_step (cells_in words)) w answer v → Does (place_step (parts_in (sizes w) s b)) w answer v
        part_placed d = rw (words_are, words-in (parts_in (sizes w) s b) valid-part) at d

pub ruleset parts = (lens-end, cells-end)
