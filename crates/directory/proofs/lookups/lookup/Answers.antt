use Rattle.std.proofs.lemmas.Result.{err_from_is_err_and}
use Rattle.nodes.specs.WordLaws.{looks_answered, looks_refused}
use Rattle.directory.proofs.lookups.lookup.Goals as goal

pub returns-in_err-found-clause-refused : goal.returns-in_err-found-clause-refused
returns-in_err-found-clause-refused g c =
    let p = err_from_is_err_and c.from_residual.result c.from_residual.ensures.1 in
    rw (p.1, p.2) c.in_err-found.ensures.refused

pub returns-clause-found : goal.returns-clause-found
returns-clause-found g c = c.in_ok-found.ensures.found

pub returns-in_err-found-clause-calls : goal.returns-in_err-found-clause-calls
returns-in_err-found-clause-calls g c =
    let p = err_from_is_err_and c.from_residual.result c.from_residual.ensures.1 in
    rw (p.1, p.2) (looks_refused c.in_err-found.ensures.calls)

pub returns-clause-calls : goal.returns-clause-calls
returns-clause-calls g c = looks_answered c.in_ok-found.ensures.calls
