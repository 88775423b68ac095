use Rattle.std.proofs.Common.{◌∙◌, ap}
use Rattle.node_store.specs.NodeCache.{NodeCache, first_bytes}
use Rattle.node_store.proofs.PlainCaches.{first_plain}
use Rattle.node_store.proofs.node_cache.NodeCache.take_first.Goals as goal

pub returns-clause-node : goal.returns-clause-node
returns-clause-node c =
    first_plain c.self.inside.nodes.entries (c.in-Some.field-0-0, c.in-Some.node) c.in-Some.ensures.value
    ∙ ap (λ (k : NodeCache). first_bytes k.entries) c.self.view_is
