use Rattle.std.proofs.Common.{◌||◌, ◌&&◌, nat_lt, List, ap, ◌∙◌, arith}
use Rattle.std.specs.FinSet as set
use Rattle.std.proofs.lemmas.Result.{err_from_is_err_and}
use Rattle.node_format.specs.Items.{Item}
use Rattle.directory.specs.Depths.{names_directory}
use Rattle.directory.proofs.ReadNodes.{link_shown, list_shown}
use Rattle.directory.proofs.depths.add_named.Goals as goal

pub returns-clause-added : goal.returns-clause-added
returns-clause-added g c b =
    let f = g.N.Nodes.node c.args.nodes.now in
    let link = link_shown f c.args.block (g.N.Nodes.shown c.brings.new.nodes) c.lent.result.now c.of.result (c.in_ok-brought.ensures.shown c.if-not-brought.false) c.lent.ensures c.of.ensures.exact ∙ c.in-Some.is in
    c.add_directories.ensures.added b
    ∙ ap (λ (items : List Item). set.contains c.args.found.now.members b || (nat_lt b c.args.found.now.blocks && names_directory items b)) (list_shown f c.args.block c.in-Some.node c.list.result link c.list.ensures)

pub returns-in_err-brought-clause-calls : goal.returns-in_err-brought-clause-calls
returns-in_err-brought-clause-calls g c =
    let p = err_from_is_err_and c.from_residual.result c.from_residual.ensures.1 in
    rw (p.1, p.2) (record { looks = c.brings.ensures.looks; reads = omega (arith, c.brings.ensures.reads); why = λ _. c.in_err-brought.ensures.why; faults = c.in_err-brought.ensures.faults })

pub returns-in_default-clause-calls : goal.returns-in_default-clause-calls
returns-in_default-clause-calls g c = record { looks = c.brings.ensures.looks; reads = omega (arith, c.brings.ensures.reads); why = tt; faults = tt }

pub returns-clause-calls : goal.returns-clause-calls
returns-clause-calls g c = record { looks = c.brings.ensures.looks; reads = omega (arith, c.brings.ensures.reads); why = tt; faults = tt }
