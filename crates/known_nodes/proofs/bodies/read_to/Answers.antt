use Rattle.std.proofs.Common.{◌∙◌, ◌++◌, List, ℕ, ap}
use Rattle.std.specs.Prelude.{reverse}
use Rattle.std.specs.List.{flat_map}
use Rattle.known_nodes.specs.FileBytes.{data_in}
use Rattle.known_nodes.specs.Tables.{blocks_in}
use Rattle.known_nodes.proofs.FileBytes.{data_back}
use Rattle.known_nodes.proofs.bodies.read_to.Goals as goal

pub returns : goal.returns
returns c =
    let f = blocks_in c.args.table.now in
    c.in_ok-add_bytes.ensures ∙ ap (λ (xs : List ℕ). xs ++ flat_map (data_in f) c.deref.result.now) c.new-bytes.ensures.items
    ∙ ap (flat_map (data_in f)) (c.deref.ensures.value ∙ c.reverse.ensures.items ∙ ap reverse c.in_ok-blocks.ensures)
    ∙ data_back f c.args.index c.args.block
