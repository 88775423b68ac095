use Rattle.std.proofs.Common.{◌≡◌, ℕ, List, Option, Some, length, ap, arith}
use Rattle.std.proofs.lemmas.List.{length-drop}
use Rattle.nodes.specs.Bodies.{data_of}
use Rattle.known_nodes.specs.Tables.{blocks_in}
use Rattle.known_nodes.proofs.node_table.NodeTable.data_length_at.Goals as goal

pub returns-in-Some : goal.returns-in-Some
returns-in-Some c =
    let bytes = c.in-Some.bytes.now in
    let same : length (data_of (Some bytes)) ≡ length (data_of (blocks_in c.args.self.now c.args.block)) = ap (λ (o : Option (List ℕ)). length (data_of o)) c.in-Some.ensures in
    omega (arith, same, length-drop 80 bytes)
