use Rattle.std.proofs.Common.{sym}
use Rattle.std.proofs.lemmas.Result.{err_from_is_err_and}
use Rattle.known_nodes.specs.Tables.{blocks_in}
use Rattle.salvages.proofs.RestRoots.{found_rest, not_found, rest_begins}
use Rattle.salvages.proofs.rests.rest_on.Goals as goal

pub rest_at-requires : goal.rest_at-requires
rest_at-requires g c = rest_begins (blocks_in c.in_ok-known.known.nodes) c.args.newest.now c.in-Some.root (sym c.in-Some.ensures)

pub returns-in_err-rest_at-in-Some-clause-why : goal.returns-in_err-rest_at-in-Some-clause-why
returns-in_err-rest_at-in-Some-clause-why g c =
    let p = err_from_is_err_and c.from_residual-in_err-rest_at-in-Some.result c.from_residual-in_err-rest_at-in-Some.ensures.1 in
    let known = c.in_ok-known in
    rw (p.1, p.2) (not_found (g.F.Flash.device c.args.flash.now) c.args.newest.now c.in-Some.root known.known.capacity (blocks_in known.known.nodes) known.ensures.nodes known.ensures.capacity c.in-Some.ensures
    (g.F.Flash.device c.know_nodes.new.flash) c.in_err-rest_at-in-Some.field-0.0 c.requires.holds c.in_err-rest_at-in-Some.ensures.err)

pub returns-in-Some-clause-rest : goal.returns-in-Some-clause-rest
returns-in-Some-clause-rest g c =
    let known = c.in_ok-known in
    let made = c.in_ok-rest_at-in-Some in
    found_rest (g.F.Flash.device c.args.flash.now) c.args.newest.now c.in-Some.root known.known.capacity (blocks_in known.known.nodes) known.ensures.nodes known.ensures.capacity c.in-Some.ensures
    made.field-0 made.ensures.makes made.ensures.losses made.ensures.beside
