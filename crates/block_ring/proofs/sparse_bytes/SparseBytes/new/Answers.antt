use Rattle.block_ring.proofs.BytesOfWords.{zero_byte}
use Rattle.block_ring.proofs.SparseLists.{listed_none}
use Rattle.block_ring.proofs.sparse_bytes.SparseBytes.new.Goals as goal

pub returns : goal.returns
returns c = listed_none _ c.args.blocks (λ b. zero_byte c.new-words.result _ b c.new-words.ensures)
