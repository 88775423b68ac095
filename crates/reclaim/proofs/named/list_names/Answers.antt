use Rattle.std.proofs.Common.{◌++◌, ℕ, List, Some, ap, ◌∙◌}
use Rattle.std.specs.List.{flat_map}
use Rattle.nodes.specs.Bodies.{index_of, pointer_of}
use Rattle.nodes.specs.Chains.{link_items, next_of}
use Rattle.reclaim.specs.Naming.{item_names, next_names, body_named}
use Rattle.reclaim.proofs.NamedLaws.{named_all}
use Rattle.reclaim.proofs.named.list_names.Goals as goal

pub returns-clause-names : goal.returns-clause-names
returns-clause-names c =
    let entries = flat_map item_names (link_items (Some c.args.bytes.now)) in
    let after = next_names (next_of (Some c.args.bytes.now)) in
    let pointers = body_named (index_of (Some c.args.bytes.now)) (pointer_of (Some c.args.bytes.now)) in
    named_all c.args.bytes.now c.push_body.new.out.items
    (c.in_ok-push_body.ensures
    ∙ ap (λ (l : List ℕ). l ++ pointers) (c.in_ok-push_directory.ensures ∙ ap (λ (l : List ℕ). (l ++ entries) ++ after) c.new-out.ensures.items))
