use Rattle.system.proofs.PreparedBits.{seen-cleared}
use Rattle.system.proofs.prepared_blocks.PreparedBlocks.remove.Goals as goal

pub returns : goal.returns
returns c = seen-cleared _ _ _ _ _ _ c.self.view_is c.self.invariant c.self.inside.words.ok.0 c.requires c.index_mut.ensures.value
