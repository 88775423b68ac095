use Rattle.std.proofs.Common.{drop, ap, ◌∙◌}
use Rattle.std.proofs.lemmas.List.{take_rest}
use Rattle.node_format.specs.Headers.{body_header}
use Rattle.node_format.proofs.body_nodes.BodyNode.bytes.Goals as goal

pub returns : goal.returns
returns c = take_rest c.self.inside.node.now 80 ∙ ap (drop body_header) c.self.view_is
