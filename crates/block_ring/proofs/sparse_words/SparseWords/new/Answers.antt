use Rattle.std.proofs.Common.{ℕ, List, ap, ◌/◌}
use Rattle.std.specs.Prelude.{slice_index}
use Rattle.block_ring.proofs.WordChunks.{word_none}
use Rattle.block_ring.proofs.SparseLists.{listed_none}
use Rattle.block_ring.proofs.sparse_words.SparseWords.new.Goals as goal

pub returns : goal.returns
returns c = listed_none _ c.args.blocks (λ b. word_none _ _ b (ap (λ (l : List ℕ). slice_index l (b / 64)) c.new.ensures.items))
