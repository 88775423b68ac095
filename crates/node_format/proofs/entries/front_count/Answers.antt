use Rattle.std.proofs.Common.{◌∙◌}
use Rattle.node_format.proofs.FrontCounts.{front_true}
use Rattle.node_format.proofs.entries.front_count.Goals as goal

pub returns-clause-told : goal.returns-clause-told
returns-clause-told c bytes l same enough is = c.counted_header.ensures.exact ∙ front_true c.args.front.now bytes l same enough is
