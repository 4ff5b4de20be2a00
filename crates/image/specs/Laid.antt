-- Where an image's parts stand, in the model's terms: no offset is a number here.
use Rattle.std.specs.Prelude.{◌≡◌, List, ℕ, ◌+◌, ◌*◌, length, take, drop}
use Rattle.model.specs.Barrier.{cache}
use Rattle.model.specs.Image.{Regions, sizes_of, regions}
use Rattle.image.specs.declared.places.Layout.{Layout}

unfoldable pub regions_at : Layout → List ℕ → Regions
regions_at l w = record {
  young_counts = take cache (drop l.counts w);
  old_counts = take cache (drop (l.counts + cache) w);
  lens = take l.n (drop l.lens w);
  slot_lens = take l.s (drop l.slots w);
  young_cells = take (l.n * 3) (drop l.young w);
  old_cells = drop l.old w;
}

-- the regions stand at their places, from `lens` on without gaps
pub record Laid (w : List ℕ) (l : Layout) : Type 0 where
  pub n : l.n ≡ (sizes_of w).n
  pub s : l.s ≡ (sizes_of w).s
  pub c : l.c ≡ (sizes_of w).c
  pub slots : l.slots ≡ l.lens + l.n
  pub young : l.young ≡ l.slots + l.s
  pub old : l.old ≡ l.young + l.n * 3
  pub end : length w ≡ l.old + l.c * 3
  pub parts : regions w ≡ regions_at l w
