use Rattle.std.proofs.Common.{◌∙◌, ap, subst}
use Rattle.node_store.specs.NodeCache.{NodeCache, without, IsBounded}
use Rattle.node_store.proofs.PlainCaches.{view, bounded_plain, out_plain}
use Rattle.node_store.proofs.node_cache.NodeCache.forget.Goals as goal

pub returns-clause-taken : goal.returns-clause-taken
returns-clause-taken c =
    ap view c.pop.ensures.entries ∙ out_plain c.self.inside.nodes c.args.block
    ∙ ap (λ (k : NodeCache). without k c.args.block) c.self.view_is

pub returns-clause-bounded : goal.returns-clause-bounded
returns-clause-bounded c = subst IsBounded c.self.view_is (bounded_plain c.self.inside.nodes c.len.ensures.valid)
