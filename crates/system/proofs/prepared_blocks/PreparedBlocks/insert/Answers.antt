use Rattle.block_ring.proofs.SetBits.{seen-set}
use Rattle.system.proofs.prepared_blocks.PreparedBlocks.insert.Goals as goal

pub returns : goal.returns
returns c = seen-set _ _ _ _ _ _ c.self.view_is c.self.invariant c.self.inside.words.ok.0 c.requires c.index_mut.ensures.value
