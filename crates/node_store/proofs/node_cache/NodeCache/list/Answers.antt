use Rattle.std.proofs.Common.{◌∙◌, ap, subst}
use Rattle.node_store.specs.NodeCache.{NodeCache, with_first, IsBounded}
use Rattle.node_store.proofs.PlainCaches.{view, bounded_plain, put_first}
use Rattle.node_store.proofs.node_cache.NodeCache.list.Goals as goal

pub returns-clause-listed : goal.returns-clause-listed
returns-clause-listed c =
    ap view c.in_ok-put.ensures.entries ∙ put_first c.self.inside.nodes c.args.block c.args.node c.len.ensures.valid.2 c.len.ensures.valid.1
    ∙ ap (λ (k : NodeCache). with_first k c.args.block c.args.node.items) c.self.view_is

pub returns-clause-bounded : goal.returns-clause-bounded
returns-clause-bounded c = subst IsBounded c.self.view_is (bounded_plain c.self.inside.nodes c.len.ensures.valid)

pub returns-in_err-put-clause-bounded : goal.returns-in_err-put-clause-bounded
returns-in_err-put-clause-bounded c = subst IsBounded c.self.view_is (bounded_plain c.self.inside.nodes c.len.ensures.valid)
