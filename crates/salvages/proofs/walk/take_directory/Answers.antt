use Rattle.std.proofs.lemmas.Result.{on_ok_weaker, IfErr-weaker}
use Rattle.known_nodes.specs.Tables.{blocks_in}
use Rattle.salvages.proofs.Adding.{directory_adds, directory_much}
use Rattle.salvages.proofs.walk.take_directory.Goals as goal

pub returns-clause-adds : goal.returns-clause-adds
returns-clause-adds c = on_ok_weaker c.take_nodes.result
    (directory_adds c.args.known.now.capacity (blocks_in c.args.known.now.nodes) c.args.way.now c.as_slice-path.result.now c.in-Some.node c.as_slice-path.ensures c.in-Some.ensures c.args.found.now c.take_nodes.new.found)
    c.take_nodes.ensures.adds

pub returns-clause-err : goal.returns-clause-err
returns-clause-err c = IfErr-weaker c.take_nodes.result _ _ (λ why much.
    directory_much c.args.known.now.capacity (blocks_in c.args.known.now.nodes) c.args.way.now c.as_slice-path.result.now c.in-Some.node c.as_slice-path.ensures c.in-Some.ensures c.args.found.now.cost why much)
    c.take_nodes.ensures.err
