use Rattle.std.proofs.Common.{◌≡◌, ◌+◌, ◌<◌, ◌≤◌}
use Rattle.std.specs.FinSet as set
use Rattle.fs_types.specs.declared.limits.TheConstants.{MAX_BAD_BLOCKS}
use Rattle.system.specs.CleaningRounds.{ErasesFree, IsCleanable}
use Rattle.system.specs.Preparations.{Prepares, preparation}
use Rattle.system.proofs.preparations.prepare_blocks.Given as goal

abbrev pub invariant-loop-done : goal.invariant-loop-done
invariant-loop-done g l = record {
  prepares : Prepares l._done (preparation (g.F.Flash.device l.initial.flash) l.initial.storage l.initial.prepared) (preparation (g.F.Flash.device l.flash) l.storage l.prepared);
  erases : ErasesFree (g.F.Flash.device l.initial.flash) l.initial.storage (g.F.Flash.device l.flash) l.storage;
  cleanable : IsCleanable (g.F.Flash.device l.flash) l.storage;
  blocks : l.prepared.blocks ≡ l.initial.prepared.blocks;
  asks : (g.F.Flash.device l.flash).operations ≤ (g.F.Flash.device l.initial.flash).operations + l._done;
  room : set.len l.storage.bad < MAX_BAD_BLOCKS;
}
