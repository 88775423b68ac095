use Rattle.std.proofs.Common.{◌∙◌, Ok}
use Rattle.std.proofs.lemmas.Result.{err_from_is_err_and}
use Rattle.inquiries.specs.Readings.{shown}
use Rattle.inquiries.proofs.Readings.{logged_versions}
use Rattle.copies.proofs.Extending.{newest_chosen}
use Rattle.copies.proofs.Doing.{move_stops, on_ok}
use Rattle.copies.proofs.adding.go_to_newest.Goals as goal

pub returns-in_err-log-clause-err : goal.returns-in_err-log-clause-err
returns-in_err-log-clause-err g c =
    let p = err_from_is_err_and c.from_residual.result c.from_residual.ensures.1 in
    rw (p.1, p.2) (move_stops _ _ _ _ tt c.in_err-log.ensures)

pub returns-clause-ok : goal.returns-clause-ok
returns-clause-ok g c =
    let are = c.as_slice-serials.ensures ∙ logged_versions _ c.args.to.now.system (Ok c.in_ok-log.log) c.in_ok-log.ensures.step in
    on_ok c.go_to_place.result _ _
    (λ goes. newest_chosen (shown c.args.to.now) (shown c.go_to_place.new.to) c.as_slice-serials.result.now c.saturating_sub-newest.result c.args.to.now.mounted.mounted.machine c.requires are c.saturating_sub-newest.ensures goes)
    c.go_to_place.ensures.ok
