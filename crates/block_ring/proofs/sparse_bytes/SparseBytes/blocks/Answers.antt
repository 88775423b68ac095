use Rattle.std.proofs.Common.{length, sym, ap, ◌∙◌}
use Rattle.std.proofs.lemmas.List.FromFn.{length-map-range_with_len}
use Rattle.block_ring.specs.SparseBytes.{byte_in}
use Rattle.block_ring.proofs.sparse_bytes.SparseBytes.blocks.Goals as goal

pub returns : goal.returns
returns c = sym (length-map-range_with_len (byte_in c.self.inside.words) 0 c.self.inside.blocks) ∙ ap length c.self.view_is
