use Rattle.std.proofs.Common.{◌∙◌}
use Rattle.system.proofs.VersionSpaces.{free_now}
use Rattle.system.proofs.version_space.tell_space.Goals as goal

pub returns : goal.returns
returns c d mounted are =
    let free = free_now d c.args.state.now c.args.ends.now.lasts.items (c.requires.lasts ∙ mounted.ring_blocks) are.lasts in
    record {
      free = free.0;
      now = free.1;
      all = c.in_ok-tell_versions.ensures.all;
      each = c.in_ok-tell_versions.ensures.each d mounted are;
      all_checkpoints = c.in_ok-tell_checkpoints.ensures.all;
      each_checkpoint = c.in_ok-tell_checkpoints.ensures.each d mounted are;
    }
