use Rattle.std.proofs.Common.{◌≡◌, ◌≤◌, drop, ap, arith}
use Rattle.std.specs.Prelude.{sum_by}
use Rattle.std.proofs.lemmas.List.Sums.{sum_by-drop_more}
use Rattle.std.proofs.lemmas.Result.{err_from_is_err_and}
use Rattle.salvages.specs.Losses.{cost_in}
use Rattle.known_nodes.specs.Tables.{blocks_in}
use Rattle.salvages.proofs.Adding.{left_much}
use Rattle.salvages.proofs.walk.take_directories.Goals as goal

pub returns-in_err-take_directory-clause-err : goal.returns-in_err-take_directory-clause-err
returns-in_err-take_directory-clause-err c =
    let p = err_from_is_err_and c.from_residual.result c.from_residual.ensures.1 in
    let of = cost_in c.args.known.now.capacity (blocks_in c.args.known.now.nodes) in
    let way = c.way-item.result in
    let same : of way ≡ of _ = ap of c.way-item.is in
    let rest = sum_by-drop_more of c.args.ways.now c.loop-way.way-index way c.loop-way-test.true in
    let le : of way ≤ sum_by of (drop c.loop-way.way-index c.args.ways.now) = omega (arith, same, rest) in
    rw (p.1, p.2) (left_much _ _ _ _ _ _ (of way) _ _ _ le c.loop-way.invariant.left c.in_err-take_directory.ensures.err)
