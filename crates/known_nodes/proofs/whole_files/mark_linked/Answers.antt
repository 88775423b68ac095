use Rattle.std.proofs.Common.{arith}
use Rattle.known_nodes.specs.Tables.{blocks_in}
use Rattle.known_nodes.specs.WholeFiles.{is_linked}
use Rattle.known_nodes.proofs.TableLaws.{marks_all, none_linked}
use Rattle.known_nodes.proofs.whole_files.mark_linked.Goals as goal

pub returns : goal.returns
returns c = λ capacity are.
    let f = blocks_in c.args.table.now in
    marks_all c.loop-block.marks.items (is_linked capacity f) c.loop-block.block c.loop-block.invariant.all (c.loop-block.invariant.marks capacity are)
    (λ b past. none_linked capacity f b (c.requires b (let test = c.loop-block-test.false in omega (arith, test, past))))
