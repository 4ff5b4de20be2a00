use Rattle.fields.proofs.Turned.{next-image}
use Rattle.fields.proofs.Counts.{old-bar-put}
use Rattle.elder.proofs.Sweeps.{swept-left, swept-turns}
use Rattle.elder.proofs.sweep.Goals as goal

pub keep_members-requires : goal.keep_members-requires
keep_members-requires c = next-image (old-bar-put _ c.put_barrier.ensures) c.requires.image

pub count_old_collection-requires : goal.count_old_collection-requires
count_old_collection-requires c = let all = (swept-left _ _ (old-bar-put _ c.put_barrier.ensures) c.keep_members.ensures c.requires.image c.requires.image_bound) in record { image = all.0; image_bound = all.1 }

pub returns : goal.returns
returns c =
    swept-turns _ _ (old-bar-put _ c.put_barrier.ensures) c.keep_members.ensures c.count_old_collection.ensures
