use Rattle.std.proofs.Common.{◌++◌, ℕ, List, Some, ap, ◌∙◌}
use Rattle.std.specs.List.{flat_map}
use Rattle.nodes.specs.Chains.{link_items}
use Rattle.reclaim.specs.Naming.{item_directories}
use Rattle.reclaim.proofs.NamedLaws.{directories_all}
use Rattle.reclaim.proofs.named.list_directories.Goals as goal

pub returns-clause-names : goal.returns-clause-names
returns-clause-names c =
    let own = flat_map item_directories (link_items (Some c.args.bytes.now)) in
    directories_all (Some c.args.bytes.now) c.push_directories.new.out.items (c.in_ok-push_directories.ensures ∙ ap (λ (l : List ℕ). l ++ own) c.new-out.ensures.items)
