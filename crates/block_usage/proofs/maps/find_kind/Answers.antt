use Rattle.std.proofs.Common.{subst}
use Rattle.block_usage.proofs.KindLemmas.{blank_after, blank_before}
use Rattle.block_usage.specs.Maps.{IsKnownKind}
use Rattle.block_usage.proofs.maps.find_kind.Goals as goal

pub returns-then-branch-clause-kind : goal.returns-then-branch-clause-kind
returns-then-branch-clause-kind g c d h reads knows = (
  subst (IsKnownKind d h c.args.bad.now c.args.block) c.in_default.is (c.kind_of.ensures d h knows),
  blank_before d (g.F.Flash.device c.args.flash.now) c.args.block reads (c.in_ok-is_blank.ensures.blank c.if-branch.true),
)

pub returns-else-branch-clause-kind : goal.returns-else-branch-clause-kind
returns-else-branch-clause-kind g c d h reads knows = (
  subst (IsKnownKind d h c.args.bad.now c.args.block) c.in_default.is (c.kind_of.ensures d h knows),
  λ blank. c.in_ok-is_blank.ensures.stale c.if-branch.false (blank_after d (g.F.Flash.device c.args.flash.now) c.args.block reads blank),
)
