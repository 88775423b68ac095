use Rattle.std.proofs.Common.{length, sym, ap, ◌∙◌}
use Rattle.std.proofs.lemmas.List.FromFn.{length-map-range_with_len}
use Rattle.block_ring.specs.SparseWords.{word_in, lists_of}
use Rattle.block_ring.proofs.sparse_words.SparseWords.blocks.Goals as goal

pub returns : goal.returns
returns c = sym (length-map-range_with_len (word_in c.self.inside.places.items (lists_of c.self.inside.chunks.items)) 0 c.self.inside.blocks) ∙ ap length c.self.view_is
