use Rattle.std.proofs.Common.{◌∙◌, sym}
use Rattle.updates.proofs.PatchLemmas.{same_more, other_more}
use Rattle.updates.proofs.patches.changed_end.Goals.{then-byte-others, else-byte-others}
use Rattle.updates.proofs.patches.changed_end.Goals as goal

pub loop-at-preserved : goal.loop-at-preserved
loop-at-preserved c = elim c.if-byte-others.branch [
  | then-byte-others w ↦ w.end-is ∙ sym (other_more c.args.bytes.now c.args.others.now c.loop-at.at c.requires c.loop-at-test.true w.if-byte-others.true)
  | else-byte-others w ↦ w.end-is ∙ c.loop-at.invariant ∙ sym (same_more c.args.bytes.now c.args.others.now c.loop-at.at c.requires c.loop-at-test.true w.if-byte-others.false)
]
