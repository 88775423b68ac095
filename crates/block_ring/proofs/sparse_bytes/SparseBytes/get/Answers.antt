use Rattle.std.proofs.Common.{ℕ, ◌%◌, List, sym, ap, ◌∙◌}
use Rattle.std.specs.Prelude.{slice_index}
use Rattle.std.specs.Int.{w32, to_le_bytes}
use Rattle.block_ring.specs.SparseBytes.{byte_in}
use Rattle.block_ring.proofs.SparseLists.{listed_get, listed_past}
use Rattle.block_ring.proofs.sparse_bytes.SparseBytes.get.Goals as goal

pub returns-then-block-self : goal.returns-then-block-self
returns-then-block-self c = sym (listed_past (byte_in c.self.inside.words) c.self.inside.blocks c.args.block c.if-block-self.true) ∙ ap (λ (l : List ℕ). slice_index l c.args.block) c.self.view_is

pub returns : goal.returns
returns c =
    ap (λ (l : List ℕ). slice_index l (c.args.block % 4)) (c.to_le_bytes-bytes.ensures ∙ ap (to_le_bytes w32) c.get.ensures) ∙ sym (listed_get (byte_in c.self.inside.words) c.self.inside.blocks c.args.block c.if-block-self.false)
    ∙ ap (λ (l : List ℕ). slice_index l c.args.block) c.self.view_is
