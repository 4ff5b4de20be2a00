-- One command over a heap: the call that it makes, and its answer and state read off it.
use mathlib.Core.Path.{◌≡◌, refl, sym, ap, subst, subst₂, ◌∙◌}
use mathlib.Core.Bool.{Bool, true, false}
use mathlib.Core.Logic.{◌≢◌}
use mathlib.Core.List.{List, [], ◌∷◌}
use mathlib.Core.Option.{Option, none, some}
use Prim.Native.Nat.{ℕ, ◌*◌, ◌/◌, ◌≤◌}
use native.Mathlib.Omega.{arith}
use lib.ListN.{length, set as put, length-set}
use borrow.Author.Tests.{le-leb}
use Rattle.model.specs.Res.{Res, ok, refuse}
use Rattle.model.specs.Records.{Ptr, Cell, ref, cell_words, cell_of, valid, all_valid, valid_words, whole_cells}
use Rattle.model.specs.Heap.{Sizes, Heap}
use Rattle.model.specs.Image.{encode, decode}
use Rattle.model.specs.Collector.{Allocation, four_counts, alloc as alloc_in, read, write}
use Rattle.model.specs.Calls.{roots_good, value_good, scratch_length, alloc_on, read_on, write_on, allocated, left, Call, allocs, reads, writes, call}
use Rattle.model.specs.Figure.{Figure, figure as figure_in}
use Rattle.model.specs.Command.{Command, new, alloc, set, load, store, report, figure}
use Rattle.model.specs.Run.{State, holding, register, Line, alloc_line, set_line, load_line, store_line, figure_line, no_line, program_bounds, the_heap, no_heap, pointer_in, added, float_in, step, stepped}
use Rattle.theorems.specs.Fit.{Fit, Image}
use Rattle.theorems.specs.Program.{program_scratch}
use Rattle.theorems.specs.Files.{call_of, ReadOff, refused, allocated as allocates, loaded, stored, Registered}
use Rattle.theorems.proofs.Res.{holds_at}
use Rattle.theorems.proofs.Contents.{all_valid_lem, valid-all, at-valid, valid-set}
use Rattle.theorems.proofs.Cells.{words-cons, words-length, cell-back, valid-words, cell-valid, whole_words, words-in}
use Rattle.theorems.proofs.Collect.{good-heap-fit, Told}
use Rattle.theorems.proofs.Calls.{alloc_told, Left, write-left, read-fit, new-valid}
use Rattle.theorems.proofs.Image.{decode-encode, encode-sized, encode-formed, image-of}
use Rattle.theorems.proofs.Kept.{fit-good, calls-kept}
use Rattle.theorems.proofs.Program.{limited-scratch}
use Rattle.theorems.proofs.Doors.{on-image}

-- a state with a heap: its image, of the sizes z, and the registers
pub record At (z : Sizes) (s : State) (w : List ℕ) : Type 0 where
  pub heap : s.heap ≡ some (decode w)
  pub image : Image w (decode w)
  pub sizes : (decode w).size ≡ z
  pub registered : Registered s

-- what a command comes to
pub data One (z : Sizes) (s : State) (w : List ℕ) (c : Command) : Type 0 where
  quiet : (a : Line) (t : State) → call_of c s ≡ none → stepped s (step c s) ≡ (a, t) → At z t w → One z s w c
  calls : (k : Call) (a : Line) (t : State) → call_of c s ≡ some k → stepped s (step c s) ≡ (a, t) → ReadOff s (call k w) c a t → At z t (call k w).image → One z s w c

-- registers

pub put-registered : (h : Option Heap) (s : State) (rs : List Cell) (r : ℕ) (c : Cell) → length rs ≡ 16 → all_valid rs ≡ true → valid c ≡ true → Registered (holding h (put rs r c) s)
unfolding holding
put-registered h s rs r c l v t = record { sixteen = length-set rs r c ∙ l; valid_cells = valid-set rs r c v t }

register-valid : {s : State} → Registered s → (r : ℕ) → valid (register s r) ≡ true
unfolding register
register-valid {s} g r = at-valid s.registers r g.valid_cells

-- a valid cell's words are written as the cell
write-words : (h : Heap) (p : Ptr) (c : Cell) → valid c ≡ true → write_on h p (cell_words (c ∷ [])) ≡ write h p c
unfolding write_on value_good whole_cells cell_words
write-words h p c t = rw (words-cons c [], valid-words c t, cell-back c t)

-- the image of a fit heap
imaged : {h : Heap} → Fit h → Image (encode h) (decode (encode h))
imaged {h} f = image-of (encode h) (encode-sized h f) (encode-formed h f)

module _ {z : Sizes} (bounds : program_bounds z ≡ true) {s : State} {w : List ℕ} (at : At z s w) where
  heap-there : the_heap s ≡ ok (decode w)
  unfolding the_heap
  heap-there = rw at.heap

  -- without a call

  refuses : {c : Command} (q : ℕ) → call_of c s ≡ none → step c s ≡ refuse q → One z s w c
  unfolding stepped
  refuses q n e = quiet (no_line q) s n (rw e) at

  rests : {c : Command} (a : Line) (t : State) → call_of c s ≡ none → step c s ≡ ok (a, t) → At z t w → One z s w c
  unfolding stepped
  rests a t n e k = quiet a t n (rw e) k

  new-one : (y : Sizes) → One z s w (new y)
  unfolding step no_heap call_of
  new-one y = refuses 14 refl (rw at.heap)

  set-one : (r a b o : ℕ) → One z s w (set r a b o)
  unfolding step call_of holding
  set-one r a b o = go (valid_words a b o) refl
    where
      go : (t : Bool) → valid_words a b o ≡ t → One z s w (set r a b o)
      go true e =
          rests set_line (holding s.heap (put s.registers r (cell_of a b o)) s) refl (rw e) (record {
            heap = at.heap;
            image = at.image;
            sizes = at.sizes;
            registered = put-registered s.heap s s.registers r (cell_of a b o) at.registered.sixteen at.registered.valid_cells (cell-valid a b o e);
          })
      go false e = refuses 3 refl (rw e)

  figure-one : (r : ℕ) → One z s w (figure r)
  unfolding step call_of
  figure-one r = go (float_in (register s r)) refl
    where
      next : (b : ℕ) → float_in (register s r) ≡ ok b → (m : Res Figure) → figure_in b ≡ m → One z s w (figure r)
      next b e (ok f) g = rests (figure_line f) s refl (rw (e, g)) at
      next b e (refuse q) g = refuses q refl (rw (e, g))

      go : (m : Res ℕ) → float_in (register s r) ≡ m → One z s w (figure r)
      go (ok b) e = next b e (figure_in b) refl
      go (refuse q) e = refuses q refl (rw e)

  -- with a call

  call-refused : {c : Command} (q : ℕ) (k : Call) → call_of c s ≡ some k → step c s ≡ refuse q → (call k w).answer ≡ refuse q → One z s w c
  unfolding stepped
  call-refused q k n e r = calls k (no_line q) s n (rw e) (refused r) (rw ((calls-kept k w).refused q r).0 at)

  -- alloc: 3 and 4 get a yes

  module _ (r a : ℕ) where
    asked : alloc_on (decode w) (cell_words s.registers) program_scratch a ≡ alloc_in (decode w) s.registers a
    unfolding alloc_on roots_good
    asked =
        let g = at.registered in
        let long : length (cell_words s.registers) ≡ 48 = omega (arith, words-length s.registers, g.sixteen) in
        let sixteen : length (cell_words s.registers) / 3 ≡ 16 = omega arith in
        let room : scratch_length (decode w).size 16 ≤ program_scratch = rw at.sizes (limited-scratch z bounds) in
        rw (
          whole_words s.registers g.valid_cells,
          le-leb (length (cell_words s.registers)) (3 * 4096) (omega arith),
          sixteen,
          le-leb (scratch_length (decode w).size 16) program_scratch room,
          words-in s.registers g.valid_cells,
        )

    abbrev k : Call
    k = allocs (cell_words s.registers) program_scratch a

    outcome : {m : Res Allocation} → alloc_in (decode w) s.registers a ≡ m → call k w ≡ allocated w (cell_words s.registers) m
    outcome e = sym (on-image at.image k) ∙ ap (allocated w (cell_words s.registers)) (asked ∙ e)

    makes : call_of (alloc r a) s ≡ some k
    unfolding call_of
    makes = rw heap-there

    alloc-done : (x : Allocation) → alloc_in (decode w) s.registers a ≡ ok x → One z s w (alloc r a)
    unfolding step stepped allocated holding
    alloc-done x e = calls k (alloc_line x.ptr (four_counts x)) (holding (some x.heap) (put x.roots r (ref x.ptr)) s) makes (rw (heap-there, e)) (rw (outcome e) reading) (rw (outcome e) there)
      where
        told : Told ⊥ (decode w) s.registers x
        told = (holds_at (alloc_told ⊥ (decode w) s.registers a (fit-good at.image.fit) (all_valid_lem s.registers at.registered.valid_cells)) e).0

        roots-valid : all_valid x.roots ≡ true
        roots-valid = valid-all x.roots told.roots-valid

        back : decode (encode x.heap) ≡ x.heap
        back = decode-encode x.heap (good-heap-fit told.good)

        reading : ReadOff s (allocated w (cell_words s.registers) (ok x)) (alloc r a) (alloc_line x.ptr (four_counts x)) (holding (some x.heap) (put x.roots r (ref x.ptr)) s)
        reading = subst₂ (λ (h : Heap) (rs : List Cell). ReadOff s (allocated w (cell_words s.registers) (ok x)) (alloc r a) (alloc_line x.ptr (four_counts x)) (holding (some h) (put rs r (ref x.ptr)) s)) back (words-in x.roots roots-valid) (allocates x.ptr (four_counts x) refl)

        there : At z (holding (some x.heap) (put x.roots r (ref x.ptr)) s) (encode x.heap)
        there = record {
          heap = ap some (sym back);
          image = imaged (good-heap-fit told.good);
          sizes = ap (λ (h : Heap). h.size) back ∙ told.same_size ∙ at.sizes;
          registered = put-registered (some x.heap) s x.roots r (ref x.ptr) (told.roots-length ∙ at.registered.sixteen) roots-valid (holds_at (new-valid (decode w) s.registers a) e);
        }

    alloc-one : One z s w (alloc r a)
    unfolding step allocated
    alloc-one = go (alloc_in (decode w) s.registers a) refl
      where
        go : (m : Res Allocation) → alloc_in (decode w) s.registers a ≡ m → One z s w (alloc r a)
        go (ok x) e = alloc-done x e
        go (refuse q) e = call-refused q k makes (rw (heap-there, e)) (rw (outcome e))

  -- load and store: 13 and the added offset's 9 come before the call

  module _ (r p d : ℕ) where
    module _ (x y : Ptr) (e : pointer_in (register s p) ≡ ok x) (f : added x d ≡ ok y) where
      load-done : (c : Cell) → read (decode w) y ≡ ok c → One z s w (load r p d)
      unfolding step stepped call_of read_on all_valid holding
      load-done c g =
          calls (reads y) (load_line c) (holding (some (decode w)) (put s.registers r c) s) (rw (heap-there, e, f)) (rw (heap-there, e, f, g, at.heap))
          (rw (← on-image at.image (reads y)) (loaded {l = cell_words (c ∷ [])} (rw g) (words-in (c ∷ []) (rw is-valid))))
          (rw (← on-image at.image (reads y)) (record {
            heap = refl;
            image = at.image;
            sizes = at.sizes;
            registered = put-registered (some (decode w)) s s.registers r c at.registered.sixteen at.registered.valid_cells is-valid;
          }))
        where
          is-valid : valid c ≡ true
          is-valid = holds_at (read-fit (decode w) y at.image.fit) g

      load-on : One z s w (load r p d)
      unfolding step call_of read_on
      load-on = go (read (decode w) y) refl
        where
          go : (m : Res Cell) → read (decode w) y ≡ m → One z s w (load r p d)
          go (ok c) g = load-done c g
          go (refuse q) g = call-refused q (reads y) (rw (heap-there, e, f)) (rw (heap-there, e, f, g)) (rw (← on-image at.image (reads y), g))

      abbrev stores : Call
      stores = writes y (cell_words (register s r ∷ []))

      written : {m : Res Heap} → write (decode w) y (register s r) ≡ m → call stores w ≡ left w m
      written g = sym (on-image at.image stores) ∙ ap (left w) (write-words (decode w) y (register s r) (register-valid at.registered r) ∙ g)

      store-done : (h : Heap) → write (decode w) y (register s r) ≡ ok h → One z s w (store r p d)
      unfolding step stepped call_of left holding
      store-done h g =
          calls stores store_line (holding (some h) s.registers s) (rw (heap-there, e, f)) (rw (heap-there, e, f, g))
          (rw (written g) (subst (λ (x : Heap). ReadOff s (left w (ok h)) (store r p d) store_line (holding (some x) s.registers s)) back (stored refl)))
          (rw (written g) (record {
            heap = ap some (sym back);
            image = imaged (good-heap-fit kept.good);
            sizes = ap (λ (x : Heap). x.size) back ∙ kept.same_size ∙ at.sizes;
            registered = record { sixteen = at.registered.sixteen; valid_cells = at.registered.valid_cells };
          }))
        where
          kept : Left ⊥ (decode w) h
          kept = holds_at (write-left ⊥ (decode w) y (register s r) (register-valid at.registered r) (fit-good at.image.fit)) g

          back : decode (encode h) ≡ h
          back = decode-encode h (good-heap-fit kept.good)

      store-on : One z s w (store r p d)
      unfolding step call_of left
      store-on = go (write (decode w) y (register s r)) refl
        where
          go : (m : Res Heap) → write (decode w) y (register s r) ≡ m → One z s w (store r p d)
          go (ok h) g = store-done h g
          go (refuse q) g = call-refused q stores (rw (heap-there, e, f)) (rw (heap-there, e, f, g)) (rw (written g))

    -- either is refused before its call, or goes on

    load_one : One z s w (load r p d)
    unfolding step call_of
    load_one = go (pointer_in (register s p)) refl
      where
        on : (x : Ptr) → pointer_in (register s p) ≡ ok x → (m : Res Ptr) → added x d ≡ m → One z s w (load r p d)
        on x e (ok y) f = load-on x y e f
        on x e (refuse q) f = refuses q (rw (heap-there, e, f)) (rw (heap-there, e, f))

        go : (m : Res Ptr) → pointer_in (register s p) ≡ m → One z s w (load r p d)
        go (ok x) e = on x e (added x d) refl
        go (refuse q) e = refuses q (rw (heap-there, e)) (rw (heap-there, e))

    store-one : One z s w (store r p d)
    unfolding step call_of
    store-one = go (pointer_in (register s p)) refl
      where
        on : (x : Ptr) → pointer_in (register s p) ≡ ok x → (m : Res Ptr) → added x d ≡ m → One z s w (store r p d)
        on x e (ok y) f = store-on x y e f
        on x e (refuse q) f = refuses q (rw (heap-there, e, f)) (rw (heap-there, e, f))

        go : (m : Res Ptr) → pointer_in (register s p) ≡ m → One z s w (store r p d)
        go (ok x) e = on x e (added x d) refl
        go (refuse q) e = refuses q (rw (heap-there, e)) (rw (heap-there, e))

  pub one : (c : Command) → c ≢ report → One z s w c
  one (new y) n = new-one y
  one (alloc r a) n = alloc-one r a
  one (set r a b o) n = set-one r a b o
  one (load r p d) n = load_one r p d
  one (store r p d) n = store-one r p d
  one report n = absurd (n refl)
  one (figure r) n = figure-one r
