use Rattle.std.proofs.Common.{◌≡◌, ℕ, ◌+◌, ◌<◌, ◌≤◌}
use Rattle.std.specs.FinSet as set
use Rattle.fs_types.specs.declared.limits.TheConstants.{MAX_BAD_BLOCKS}
use Rattle.system.specs.CleaningRounds.{AreClean, LooksAt, free_between}
use Rattle.system.proofs.cleaning_rounds.clean_blocks.Given as goal

abbrev pub invariant-loop-block : goal.invariant-loop-block
invariant-loop-block g l = record {
  looks : LooksAt (g.F.Flash.device l.initial.flash) l.initial.storage l.first l.block (g.F.Flash.device l.flash) l.storage;
  clean : AreClean l.initial.storage l.first l.block (g.F.Flash.device l.flash) l.storage;
  left : l.left + free_between l.initial.storage l.first l.block ≡ l.budget;
  within : (b : ℕ) → l.first ≤ b → b < l.block → b < l.blocks;
  room : set.len l.storage.bad < MAX_BAD_BLOCKS;
}
