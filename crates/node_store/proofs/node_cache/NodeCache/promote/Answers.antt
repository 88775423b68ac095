use Rattle.std.proofs.Common.{◌∙◌, ap, sym, subst, is_some}
use Rattle.node_store.specs.NodeCache.{NodeCache, node_in, with_first, IsBounded}
use Rattle.node_store.proofs.PlainCaches.{view, bounded_plain, promoted_first, promoted_none, listed_plain}
use Rattle.node_store.proofs.node_cache.NodeCache.promote.Goals as goal

pub returns-clause-value : goal.returns-clause-value
returns-clause-value c =
    c.promote.ensures.value ∙ listed_plain c.self.inside.nodes c.args.block ∙ ap (λ (k : NodeCache). is_some (node_in k c.args.block)) c.self.view_is

pub returns-clause-moved : goal.returns-clause-moved
returns-clause-moved c = λ bytes has.
    ap view c.promote.ensures.entries
    ∙ promoted_first c.self.inside.nodes c.args.block bytes c.len.ensures.valid.1 (ap (λ (k : NodeCache). node_in k c.args.block) c.self.view_is ∙ has)
    ∙ ap (λ (k : NodeCache). with_first k c.args.block bytes) c.self.view_is

pub returns-clause-stays : goal.returns-clause-stays
returns-clause-stays c = λ none.
    ap view c.promote.ensures.entries ∙ promoted_none c.self.inside.nodes c.args.block (sym c.promote.ensures.value ∙ none) ∙ c.self.view_is

pub returns-clause-bounded : goal.returns-clause-bounded
returns-clause-bounded c = subst IsBounded c.self.view_is (bounded_plain c.self.inside.nodes c.len.ensures.valid)
