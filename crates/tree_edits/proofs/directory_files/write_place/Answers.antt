use Rattle.std.proofs.lemmas.Result.{err_from_is_err_and}
use Rattle.nodes.specs.WordLaws.{works_answered, works_refused}
use Rattle.tree_edits.proofs.directory_files.write_place.Goals as goal

pub returns-in_err-body-clause-calls : goal.returns-in_err-body-clause-calls
returns-in_err-body-clause-calls g c =
    let p = err_from_is_err_and c.from_residual.result c.from_residual.ensures.1 in
    rw (p.1, p.2) (works_refused c.in_err-body.ensures.calls)

pub returns-clause-calls : goal.returns-clause-calls
returns-clause-calls g c = works_answered c.in_ok-body.ensures.calls
