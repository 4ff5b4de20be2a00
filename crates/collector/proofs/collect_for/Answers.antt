use borrow.Author.Rules.{rules}
use mathlib.Core.Path.{◌≡◌, sym, ◌∙◌}
use Prim.Native.Nat.{◌/◌, ◌≤◌}
use native.Mathlib.Omega.{arith}
use lib.ListN.{length}
use Rattle.model.specs.Image.{decode}
use Rattle.model.specs.Calls.{scratch_length}
use Rattle.collector.proofs.Ending.{ready-first, roots-asked, refused-is, gave-is}
use Rattle.collector.proofs.collect_for.Goals as goal
use Rattle.collector.proofs.collect_for.Goals.{After-collect_and_change, After-save-used}

-- scratch keeps its length
long-saved : (c : After-save-used) → length c.save-used.new.scratch ≡ length c.args.scratch.now
long-saved c = search rules

room-saved : (c : After-save-used) → scratch_length (decode c.args.image.now).size (length c.args.roots.now / 3) ≤ length c.save-used.new.scratch
room-saved c = omega (arith, long-saved c, c.requires.roots_in_bounds)

kept : (c : After-collect_and_change) → (length c.collect_and_change.new.image ≡ length c.args.image.now) × (length c.collect_and_change.new.scratch ≡ length c.save-used.new.scratch)
kept c = (search rules, search rules)

pub collect_and_change-requires : goal.collect_and_change-requires
collect_and_change-requires c = ready-first _ c.args.image.now c.args.roots.now c.save-used.new.scratch c.requires.image c.requires.roots_value (room-saved (goal.at.collect_and_change-requires c).After-save-used) c.save-used.ensures c.requires.amount_nonzero

pub invariant_of-change_roots : goal.invariant_of-change_roots
invariant_of-change_roots c = let n = roots-asked _ c.args.image.now c.args.roots.now c.save-used.new.scratch c.requires.image c.requires.roots_value (room-saved (goal.at.invariant_of-change_roots c).After-save-used) c.save-used.ensures c.collect_and_change.ensures _ c.in-Ok.is (kept (goal.at.invariant_of-change_roots c).After-collect_and_change).1 in
    record { formed = n.0 }

pub change_roots-requires : goal.change_roots-requires
change_roots-requires c = let n = roots-asked _ c.args.image.now c.args.roots.now c.save-used.new.scratch c.requires.image c.requires.roots_value (room-saved (goal.at.change_roots-requires c).After-save-used) c.save-used.ensures c.collect_and_change.ensures _ c.in-Ok.is (kept (goal.at.change_roots-requires c).After-collect_and_change).1 in record {
  roots_value = n.1;
  roots_in_bounds = n.2;
  moved_in_bounds = n.3;
}

pub returns-in-Ok : goal.returns-in-Ok
returns-in-Ok c = gave-is _ c.args.image.now c.args.roots.now c.save-used.new.scratch c.requires.image c.requires.roots_value (room-saved (goal.at.returns-in-Ok c).After-save-used) c.save-used.ensures c.collect_and_change.ensures _ c.in-Ok.is c.change_roots.ensures ∙ sym (c.collected.ensures _ _)

pub returns-in-Err : goal.returns-in-Err
returns-in-Err c = refused-is _ c.args.image.now c.args.roots.now c.save-used.new.scratch c.requires.image c.requires.roots_value (room-saved (goal.at.returns-in-Err c).After-save-used) c.save-used.ensures c.collect_and_change.ensures _ c.in-Err.is c.restore.ensures (kept (goal.at.returns-in-Err c).After-collect_and_change).0
