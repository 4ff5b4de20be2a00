-- A heap that an image can hold: what question 1 and 2 ask of the words, said of the heap.
use Rattle.std.specs.Prelude.{◌≡◌, true, List, ℕ, ◌≤◌, length}
use Rattle.model.specs.Lists.{flat, all_at_most}
use Rattle.model.specs.Records.{all_valid}
use Rattle.model.specs.Barrier.{Barrier, cache, most, counts}
use Rattle.model.specs.Heap.{Nursery, Elder, Sizes, in_bounds, Heap, in_use}
use Rattle.model.specs.Image.{cursor_in, tiles, encode}

pub record FitBarrier (b : Barrier) : Type 0 where
  pub size : length (counts b) ≡ cache
  pub bounded : all_at_most most (counts b) ≡ true

pub record FitNursery (z : Sizes) (y : Nursery) : Type 0 where
  pub cursor : cursor_in y.cursor z.n ≡ true
  pub colls : y.colls ≤ most
  pub proms : y.proms ≤ most
  pub bar : FitBarrier y.bar
  pub lens : length y.lens ≡ z.n
  pub tiled : tiles y.cursor 0 y.lens ≡ true
  pub cells : length y.cells ≡ z.n
  pub valid : all_valid y.cells ≡ true

pub record FitElder (z : Sizes) (e : Elder) : Type 0 where
  pub colls : e.colls ≤ most
  pub bar : FitBarrier e.bar
  pub slots : length e.slots ≡ z.s
  pub room : in_use e.slots ≤ z.c
  pub valid : all_valid (flat e.slots) ≡ true

pub record Fit (h : Heap) : Type 0 where
  pub sizes : in_bounds h.size ≡ true
  pub young : FitNursery h.size h.young
  pub old : FitElder h.size h.old

-- the words are the image of the heap
pub record Image (w : List ℕ) (h : Heap) : Type 0 where
  pub is : w ≡ encode h
  pub fit : Fit h
