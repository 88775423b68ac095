use Rattle.std.proofs.Common.{List, ℕ, Option, ◌∙◌, ap}
use Rattle.nodes.specs.Bodies.{data_of}
use Rattle.known_nodes.proofs.node_table.NodeTable.data_at.Goals as goal

pub returns-in-Some : goal.returns-in-Some
returns-in-Some c = c.data_in.ensures ∙ ap (λ (o : Option (List ℕ)). data_of o) c.in-Some.ensures
