use Rattle.trial_update.proofs.Tried.{read_starts, unread_starts}
use Rattle.trial_update.proofs.trial.start.Goals as goal

pub returns-in-Ok : goal.returns-in-Ok
returns-in-Ok g c =
    read_starts c.args.trial.now c.args.good.now c.args.fs.now c.in-Ok.bytes c.as_slice.result.now c.starts_in.result c.read_at.new.self c.go_on.result c.go_on.new.fs
    c.starts_in.ensures.value c.as_slice.ensures c.in-Ok.ensures.step c.go_on.ensures

pub returns-in-Err : goal.returns-in-Err
returns-in-Err g c =
    unread_starts c.args.trial.now c.args.good.now c.args.fs.now c.in-Err.fault c.without_trial.result c.read_at.new.self
    c.in-Err.ensures.step c.without_trial.ensures.missing c.without_trial.ensures.other
