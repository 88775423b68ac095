use Rattle.std.proofs.Common.{rules, tests, ◌∙◌, ap, sym, ℕ, find, not, option_map}
use Rattle.std.specs.FinSet as set
use Rattle.std.specs.Map.{keys_of}
use Rattle.std.proofs.lemmas.Iterator.Consumers.{YieldsList-from_rest}
use Rattle.std.proofs.lemmas.Iterator.Search.{find_from_yields_List}
use Rattle.node_store.specs.NodeCache.{NodeCache}
use Rattle.node_store.proofs.PlainCaches.{Node, found_plain}
use Rattle.node_store.proofs.node_cache.NodeCache.first_unused.Goals as goal

pub returns-in_err-block : goal.returns-in_err-block
returns-in_err-block c =
    let found = find_from_yields_List (λ e. not (set.contains c.args.ring.now.used e.0)) _ _ c.find.result c.find.ensures.ran (YieldsList-from_rest c.self.inside.nodes.entries c.iter.ensures.rest) (λ x b q k. search (rules, tests)) in
    c.from_residual.ensures
    ∙ ap (λ o. option_map (λ (e : ℕ × Node). e.0) (option_map (λ p. (p.0.now, p.1.now)) o)) (sym c.in_err-block.was)
    ∙ ap (option_map (λ (e : ℕ × Node). e.0)) found
    ∙ found_plain (λ b. not (set.contains c.args.ring.now.used b)) c.self.inside.nodes.entries
    ∙ ap (λ (k : NodeCache). find (λ b. not (set.contains c.args.ring.now.used b)) (keys_of k.entries)) c.self.view_is

pub returns : goal.returns
returns c =
    let found = find_from_yields_List (λ e. not (set.contains c.args.ring.now.used e.0)) _ _ c.find.result c.find.ensures.ran (YieldsList-from_rest c.self.inside.nodes.entries c.iter.ensures.rest) (λ x b q k. search (rules, tests)) in
    ap (λ o. option_map (λ (e : ℕ × Node). e.0) (option_map (λ p. (p.0.now, p.1.now)) o)) (sym c.in_ok-block.was)
    ∙ ap (option_map (λ (e : ℕ × Node). e.0)) found
    ∙ found_plain (λ b. not (set.contains c.args.ring.now.used b)) c.self.inside.nodes.entries
    ∙ ap (λ (k : NodeCache). find (λ b. not (set.contains c.args.ring.now.used b)) (keys_of k.entries)) c.self.view_is
