use Rattle.std.proofs.Common.{◌≡◌, ℕ, ◌*◌, List, length, ap, ◌∙◌, arith}
use Rattle.plain_trees.specs.Contents.{read_from}
use Rattle.nodes.specs.Bodies.{body}
use Rattle.tree_edits.specs.Writing.{bytes_after}
use Rattle.tree_edits.proofs.Kept.{overlaid_edit}
use Rattle.tree_edits.proofs.changed_nodes.edit_into.Goals as goal

pub returns-clause-edited : goal.returns-clause-edited
returns-clause-edited g c =
    let change = c.args.change in
    let f = g.N.Nodes.node c.args.nodes.now in
    let file : List ℕ = body change.capacity f change.body.head change.body.length in
    let mid = c.read_kept.new.out in
    let start : ℕ = c.args.index * change.capacity in
    let long : length mid ≡ length c.args.out.now = omega (arith, c.read_kept.auto.out) in
    let all = overlaid_edit file mid c.overlay.new.out c.args.bytes.now start change.offset change.size (omega (arith, c.overlay.auto.out)) (λ i lt which. c.in_ok-read_kept.ensures.kept i (omega (arith, long)) which) c.overlay.ensures (omega (arith, long, c.requires.fits)) in
    all ∙ ap (read_from (bytes_after f change c.args.bytes.now) start) long
