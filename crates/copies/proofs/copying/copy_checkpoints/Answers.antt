use Rattle.std.proofs.Common.{◌∙◌, map, take, ◌++◌}
use Rattle.inquiries.specs.Readings.{shown}
use Rattle.inquiries.proofs.Readings.{unchanged-trans}
use Rattle.inquiries.proofs.VersionLemmas.{name_seen}
use Rattle.copies.proofs.Keeping.{checkpoint_next}
use Rattle.copies.proofs.copying.copy_checkpoints.Goals as goal

pub copy_checkpoint-requires-clause-there : goal.copy_checkpoint-requires-clause-there
copy_checkpoint-requires-clause-there g c =
    name_seen (shown c.args.from.now) (shown c.loop-name.from) c.args.from.now.mounted.mounted.machine c.loop-name.invariant.1.machine c.args.names.now c.loop-name.name-index c.name-item.result c.requires.names c.loop-name-test.true c.name-item.is

pub loop-name-preserved : goal.loop-name-preserved
loop-name-preserved g c = (
  c.copy_checkpoint.ensures.same_flash ∙ c.loop-name.invariant.0,
  unchanged-trans c.args.from.now c.loop-name.from c.copy_checkpoint.new.from c.loop-name.invariant.1 c.copy_checkpoint.ensures.same,
  c.in_ok-copy_checkpoint.ensures.ready,
  λ limit trees holds. checkpoint_next limit trees (shown c.args.from.now) (shown c.loop-name.from) c.args.names.now c.loop-name.name-index c.name-item.result (shown c.copy_checkpoint.new.to).history
      c.args.from.now.mounted.mounted.machine c.loop-name.invariant.1.machine c.requires.names c.loop-name-test.true c.name-item.is
      (c.in_ok-copy_checkpoint.ensures.ok limit (trees ++ map (λ e. e.1) (take c.loop-name.name-index (shown c.args.from.now).history.checkpoints)) (take c.loop-name.name-index (shown c.args.from.now).history.checkpoints) (c.loop-name.invariant.3 limit trees holds)),
)
