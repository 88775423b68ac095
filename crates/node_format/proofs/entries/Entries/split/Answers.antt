use Rattle.node_format.proofs.Edited.{split_named}
use Rattle.node_format.proofs.entries.Entries.split.Goals as goal
use Rattle.std.proofs.Common.{sym}

pub returns-clause-found : goal.returns-clause-found
returns-clause-found c = sym (split_named _ _ _ _ _ c.in_ok-list.ensures.split)
