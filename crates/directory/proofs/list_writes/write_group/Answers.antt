use Rattle.std.proofs.Common.{ap, ◌∙◌, arith}
use Rattle.node_format.specs.Links.{link, link_at}
use Rattle.node_format.specs.Items.{Item}
use Rattle.std.specs.Prelude.{Some, List, true}
use Rattle.directory.proofs.WrittenNodes.{one_more, group_part}
use Rattle.directory.proofs.list_writes.write_group.Goals as goal

pub returns-clause-one : goal.returns-clause-one
returns-clause-one g c =
    let part = group_part c.args.list.now c.part.result c.args.group c.min-held.result (let size = c.len.ensures in let held = c.min-held.ensures in omega (arith, size, held)) c.part.ensures in
    one_more (g.N.Nodes.node c.write.new.self) (g.N.Nodes.kept c.args.nodes.now) (g.N.Nodes.kept c.write.new.self) c.args.next c.as_slice-node.result.now _ c.write.result
    (ap link_at c.as_slice-node.ensures.value ∙ c.in_ok-bytes.ensures.read ∙ ap (λ (items : List Item). Some (link true c.args.next items)) part) (g.met.N.Nodes.none_below c.write.new.self) c.write.ensures.fresh c.write.ensures.kept c.write.ensures.written
