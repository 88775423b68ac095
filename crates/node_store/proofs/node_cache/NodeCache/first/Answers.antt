use Rattle.std.proofs.Common.{◌∙◌, ap}
use Rattle.node_store.specs.NodeCache.{NodeCache, first_bytes}
use Rattle.node_store.proofs.PlainCaches.{first_plain, none_first}
use Rattle.node_store.proofs.node_cache.NodeCache.first.Goals as goal

pub returns-in-Some : goal.returns-in-Some
returns-in-Some c =
    c.deref.ensures.value ∙ first_plain c.self.inside.nodes.entries _ c.in-Some.ensures ∙ ap (λ (k : NodeCache). first_bytes k.entries) c.self.view_is

pub returns-in-None : goal.returns-in-None
returns-in-None c = none_first c.self.inside.nodes.entries c.in-None.ensures ∙ ap (λ (k : NodeCache). first_bytes k.entries) c.self.view_is
