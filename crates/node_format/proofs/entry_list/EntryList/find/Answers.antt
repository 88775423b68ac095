use Rattle.std.proofs.Common.{sym}
use Rattle.node_format.proofs.Edited.{split_named}
use Rattle.node_format.proofs.entry_list.EntryList.find.Goals as goal

pub returns : goal.returns
returns c = sym (split_named _ _ _ _ _ c.split.ensures.split)
