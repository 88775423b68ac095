use Rattle.std.proofs.Common.{◌++◌, ℕ, List, Some, ap, ◌∙◌}
use Rattle.std.specs.List.{flat_map}
use Rattle.nodes.specs.Bodies.{index_of, pointer_of}
use Rattle.nodes.specs.Chains.{link_items}
use Rattle.reclaim.specs.Naming.{item_heads, body_named}
use Rattle.reclaim.proofs.NamedLaws.{bodies_all}
use Rattle.reclaim.proofs.named.list_bodies.Goals as goal

pub returns-clause-names : goal.returns-clause-names
returns-clause-names c =
    let heads = flat_map item_heads (link_items (Some c.args.bytes.now)) in
    let pointers = body_named (index_of (Some c.args.bytes.now)) (pointer_of (Some c.args.bytes.now)) in
    bodies_all c.args.bytes.now c.push_body.new.out.items
    (c.in_ok-push_body.ensures ∙ ap (λ (l : List ℕ). l ++ pointers) (c.in_ok-push_files.ensures ∙ ap (λ (l : List ℕ). l ++ heads) c.new-out.ensures.items))
