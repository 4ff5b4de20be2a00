-- The elder's words in an image, as they are lent and as they come back.
use mathlib.Core.Path.{◌≡◌, refl, sym, ap, ◌∙◌}
use mathlib.Core.Bool.{Bool, true, false}
use mathlib.Core.List.{List, [], ◌∷◌, ◌++◌, map, append_assoc}
use Prim.Native.Nat.{ℕ, ◌+◌, ◌-◌, ◌*◌, ◌≤◌, ◌<◌}
use native.Mathlib.Omega.{arith}
use lib.Dec.{ltb}
use lib.ListN.{length, get_or, take, drop, replicate, length-append, length-drop, length-map}
use lib.Seq.{take_at, drop_at, drop-drop}
use Rattle.model.specs.Lists.{flat, keep_if}
use Rattle.model.specs.Res.{ok, ◌>>=◌, ask}
use Rattle.model.specs.Records.{Ptr, Cell, blank, cell_words, all_valid}
use Rattle.model.specs.Barrier.{counts}
use Rattle.model.specs.Heap.{Sizes, Heap, in_use}
use Rattle.model.specs.Image.{sizes_of, flag, encode, decode}
use Rattle.model.specs.Collector.{holds, old_at, read}
use Rattle.theorems.specs.Fit.{Fit, Image}
use Rattle.theorems.proofs.Cells.{words-length}
use Rattle.theorems.proofs.Image.{image-decode, image-sized}
use Rattle.words.specs.Words.{padded}
use Rattle.words.proofs.Laws.{padded-length}
use Rattle.slots.specs.declared.Slots.{Slots}
use Rattle.slots.specs.Slots.{Packed, slots_of, slots_at, slots_in, Elder, ElderIn, Changed, ChangedIn, read_old, ReadBy}
use Rattle.trace.specs.Words.{pointer}
use Rattle.std.specs.Prelude.{Option}
use Rattle.value.specs.declared.Words.{Words}
use Rattle.slots.proofs.Counts.{packed-is, elder-is, slots_length}
use Rattle.slots.proofs.Parts.{lent, lent_is}
use Rattle.slots.proofs.Changes.{joint-cells, joint-elder, joint-changed}
use Rattle.image.specs.Places.{Sized}
use Rattle.image.specs.Laid.{Laid}
use Rattle.image.proofs.Bounds.{is-sized}
use Rattle.layout.specs.Elder.{with_slots, Turned}
use Rattle.image.specs.declared.places.Layout.{Layout}

-- an image up to the elder's lengths, and from there on

unfoldable front : Heap → List ℕ
front h =
    let z = h.size in
    let y = h.young in
    let e = h.old in
    z.n ∷ z.t ∷ z.s ∷ z.c ∷ y.cursor ∷ y.colls ∷ y.proms ∷ e.colls ∷ flag y.bar ∷ flag e.bar ∷ (counts y.bar ++ (counts e.bar ++ y.lens))

abbrev back : Heap → List (List Cell) → List ℕ
back h ss = map length ss ++ (cell_words h.young.cells ++ padded (cell_words (flat ss)) (h.size.c * 3))

split : (h : Heap) (ss : List (List Cell)) → encode (with_slots ss h) ≡ front h ++ back h ss
unfolding encode with_slots front padded in_use
split h ss =
    let a : List ℕ = counts h.young.bar in
    let b : List ℕ = counts h.old.bar in
    let y : List ℕ = h.young.lens in
    let t : List ℕ = map length ss ++ (cell_words h.young.cells ++ (cell_words (flat ss) ++ replicate ((h.size.c - length (flat ss)) * 3) 0)) in
    let left : h.size.c * 3 - length (cell_words (flat ss)) ≡ (h.size.c - length (flat ss)) * 3 = omega (arith, words-length (flat ss)) in
    rw (left, append_assoc a (b ++ y) t, append_assoc b y t)

fit-slots : (h : Heap) (rs : List (List Cell)) → Fit h → length rs ≡ h.size.s → in_use rs ≤ h.size.c → all_valid (flat rs) ≡ true → Fit (with_slots rs h)
unfolding with_slots
fit-slots h rs g a r u = record { sizes = g.sizes; young = g.young; old = record { colls = g.old.colls; bar = g.old.bar; slots = a; room = r; valid = u } }

read-old : (h : Heap) (b o : ℕ) → read_old h.old.slots b o ≡ read h (pointer 1 b o)
unfolding read_old read old_at
read-old h b o = go (ltb o (length (get_or h.old.slots b []))) (get_or h.old.slots b [])
  where
    go : (t : Bool) (s : List Cell) → (ask 8 t >>= λ _. ok (get_or s o blank)) ≡ ((ask 8 t >>= λ _. ok s) >>= λ s. ok (get_or s o blank))
    go true s = refl
    go false s = refl

module _ {w : List ℕ} {h : Heap} (i : Image w h) where
  abbrev ss : List (List Cell)
  ss = h.old.slots

  w-is : w ≡ front h ++ back h ss
  unfolding with_slots
  w-is = i.is ∙ split h ss

  sizes-is : sizes_of w ≡ h.size
  unfolding sizes_of encode
  sizes-is = ap sizes_of i.is

  cells-length : length (padded (cell_words (flat ss)) (h.size.c * 3)) ≡ h.size.c * 3
  unfolding in_use
  cells-length = padded-length (cell_words (flat ss)) (h.size.c * 3) (omega (arith, words-length (flat ss), i.fit.old.room))

  pub image-says-sized : Sized w
  image-says-sized = is-sized w (image-sized i).0

  packed-in : Packed (map length ss) (padded (cell_words (flat ss)) (h.size.c * 3)) ss
  packed-in = record {
    lens = refl;
    cells = ap (padded (cell_words (flat ss))) (sym cells-length);
    fits = omega (arith, cells-length, i.fit.old.room);
    valid = i.fit.old.valid;
  }

  module _ {l : Layout} (p : Laid w l) where
    n-is : l.n ≡ h.size.n
    n-is = p.n ∙ ap (λ (z : Sizes). z.n) sizes-is

    pub s-is : l.s ≡ h.size.s
    s-is = p.s ∙ ap (λ (z : Sizes). z.s) sizes-is

    pub c-is : l.c ≡ h.size.c
    c-is = p.c ∙ ap (λ (z : Sizes). z.c) sizes-is

    pub slots-inside : l.slots ≤ length w
    slots-inside = omega (arith, p.young, p.old, p.end)

    lens-length : length (map length ss) ≡ l.s
    lens-length = length-map ss length ∙ i.fit.old.slots ∙ sym s-is

    young-length : l.s + length (cell_words h.young.cells) ≡ l.old - l.slots
    young-length = omega (arith, words-length h.young.cells, i.fit.young.cells, n-is, p.young, p.old)

    slots-is : length (front h) ≡ l.slots
    slots-is =
        let all : length w ≡ length (front h) + (length (map length ss) + (length (cell_words h.young.cells) + length (padded (cell_words (flat ss)) (h.size.c * 3)))) = rw w-is (simp length-append) in
        omega (arith, lens-length, young-length, cells-length, c-is, p.young, p.old, p.end)

    tail-is : drop l.slots w ≡ back h ss
    tail-is = rw w-is (drop_at (front h) (back h ss) l.slots slots-is)

    -- the elder's words, as they are lent to be written
    elder-in : Elder l.s (l.old - l.slots) (drop l.slots w) ss
    elder-in = rw tail-is (joint-elder (map length ss) (cell_words h.young.cells) (padded (cell_words (flat ss)) (h.size.c * 3)) lens-length young-length packed-in)

    pub slots-at-is : slots_at l.s (l.old - l.slots) (drop l.slots w) ≡ ss
    slots-at-is = elder-is elder-in

    -- and as they come back
    image-out : {t : List ℕ} {rs : List (List Cell)} → Changed l.s (l.old - l.slots) (drop l.slots w) t rs → length t ≡ length (drop l.slots w) → Image (take l.slots w ++ t) (with_slots rs h)
    image-out {t} {rs} c k =
        let back_is : t ≡ back h rs =
        rw cells-length at (joint-changed (map length ss) (cell_words h.young.cells) (padded (cell_words (flat ss)) (h.size.c * 3)) lens-length young-length (rw tail-is at c) (rw tail-is at k)) in
        let front-is : take l.slots w ≡ front h = rw w-is (take_at (front h) (back h ss) l.slots slots-is) in
        let room : in_use rs ≤ h.size.c = omega (arith, c.elder.packed.fits, length-drop (l.old - l.slots) t, length-drop l.slots w, p.young, p.old, p.end, c-is) in
        record {
          is = rw (front-is, back_is) (sym (split h rs));
          fit = fit-slots h rs i.fit (slots_length c.elder ∙ s-is) room c.elder.packed.valid;
        }

    module _ (x : Slots) (b : x.words.now ≡ drop l.slots w) (is : x.s ≡ l.s) (ia : x.at ≡ l.old - l.slots) where
      pub slots_in-is : slots_in x ≡ ss
      slots_in-is = rw (b, is, ia) slots-at-is

      pub lent-formed : ElderIn x
      lent-formed = rw (b, is, ia, slots-at-is) elder-in

      pub inside-slot : (k o : ℕ) → o < length (get_or ss k []) → o < length (get_or (slots_in x) k [])
      inside-slot k o q = rw slots_in-is q

      pub hits-are : (q : Ptr) {r : ℕ} → r ≡ length (keep_if (holds q) (flat (slots_in x))) → r ≡ length (keep_if (holds q) (flat ss))
      hits-are q e = rw slots_in-is at e

    -- and as they are lent to be read

    pub lens-lent : take (l.young - l.slots) (drop l.slots w) ≡ map length ss
    lens-lent = let e : l.young - l.slots ≡ l.s = omega (arith, p.young) in rw (tail-is, e) (take_at (map length ss) _ l.s lens-length)

    cells-lent : lent l.old w ≡ padded (cell_words (flat ss)) (h.size.c * 3)
    cells-lent =
        let e : l.old ≡ l.slots + (l.old - l.slots) = omega (arith, p.young, p.old) in
        lent_is w l.old (omega (arith, p.end))
        ∙ ap (λ (k : ℕ). drop k w) e
        ∙ sym (drop-drop (l.old - l.slots) l.slots w)
        ∙ rw tail-is (joint-cells (map length ss) (cell_words h.young.cells) _ lens-length young-length)

    packed-at : Packed (take (l.young - l.slots) (drop l.slots w)) (lent l.old w) ss
    packed-at = rw (lens-lent, cells-lent) packed-in

    slots-of-is : slots_of (take (l.young - l.slots) (drop l.slots w)) (lent l.old w) ≡ ss
    slots-of-is = packed-is packed-at

    pub parts-formed : Packed (take (l.young - l.slots) (drop l.slots w)) (lent l.old w) (slots_of (take (l.young - l.slots) (drop l.slots w)) (lent l.old w))
    parts-formed = rw slots-of-is packed-at

    -- `read_elder`
    pub read_is : (b o : ℕ) {r : Option Words} → ReadBy (read_old (slots_of (take (l.young - l.slots) (drop l.slots w)) (lent l.old w)) b o) r → ReadBy (read h (pointer 1 b o)) r
    read_is b o q = rw (← read-old h b o) (rw slots-of-is at q)

-- w became v, as the contracts say it

-- so that one operation can follow another
pub turned-image : {g : List (List Cell) → List (List Cell)} {w v : List ℕ} → Image w (decode w) → Turned g w v → Image v (decode v)
turned-image {w = w} i t = let j = t.turned (decode w) i in rw (image-decode j) j

-- once the words are handed back
pub tail-turned : {g : List (List Cell) → List (List Cell)} {w : List ℕ} {l : Layout} → Laid w l → {x y : Slots} {f t : List ℕ} → x.words.now ≡ drop l.slots w → x.s ≡ l.s → x.at ≡ l.old - l.slots → ChangedIn x y (g (slots_in x)) → f ≡ take l.slots w → t ≡ y.words.now
    → Turned g w (f ++ t)
tail-turned {g} {w} {l} p {x} {y} b is ia c f e = record {
  turned = λ h i. rw (f, e) (image-out i p (rw (slots_in-is i p x b is ia, is, ia, b) at c.changed) (rw b at c.same.len));
}

pub ruleset tails = (image-says-sized, turned-image, lent-formed, inside-slot, hits-are, parts-formed, read_is, tail-turned)
