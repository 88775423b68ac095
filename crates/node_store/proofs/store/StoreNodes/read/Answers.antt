use Rattle.std.proofs.Common.{rules}
use Rattle.node_store.specs.ReadingLaws.{OnlyReads_nodes}
use Rattle.node_store.proofs.store.StoreNodes.read.Goals as goal

pub returns-clause-looks : goal.returns-clause-looks
returns-clause-looks g c = record {
  same_nodes = OnlyReads_nodes _ _ c.requires.lawful c.read_first.ensures.only_reads;
  same_kept = search rules;
  same_writes = search rules;
  came = search rules;
  sound = search rules;
  same_limit = search rules;
  same_blocks = search rules;
}
