use Rattle.std.proofs.Common.{subst}
use Rattle.node_store.specs.NodeCache.{IsBounded}
use Rattle.node_store.proofs.PlainCaches.{bounded_plain}
use Rattle.node_store.proofs.node_cache.NodeCache.len.Goals as goal

pub returns-clause-bounded : goal.returns-clause-bounded
returns-clause-bounded c = subst IsBounded c.self.view_is (bounded_plain c.self.inside.nodes c.len.ensures.valid)
