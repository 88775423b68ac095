use Rattle.std.proofs.Common.{refl, subst, Ok, Err}
use Rattle.std.proofs.lemmas.Result.{err_from_is_err_and}
use Rattle.fs_types.specs.declared.call.Call.{Call}
use Rattle.fs_types.specs.declared.call.Reply.{Reply}
use Rattle.system.specs.Steps.{SystemStep}
use Rattle.undofs.proofs.Replies.{reply_is, log_step}
use Rattle.undofs.proofs.fs.Fs.log.Goals as goal

pub unreachable-requires : goal.unreachable-requires
unreachable-requires g c =
    let fs = c.args.self.now in
    let d = g.F.Flash.device fs.flash.now in
    c.in_default.not-Log _ _ _ _ _ (reply_is d d fs.system fs.system Call.Log _ refl (log_step d fs.system (Ok _) fs.mounted (c.in_ok-next.ensures d)))

pub returns-in_err-next : goal.returns-in_err-next
returns-in_err-next g c =
    let fs = c.args.self.now in
    let d = g.F.Flash.device fs.flash.now in
    let p = err_from_is_err_and c.from_residual.result c.from_residual.ensures.1 in
    rw (p.1, p.2) (record { step = log_step d fs.system (Err _) fs.mounted (c.in_err-next.ensures d); same_flash = refl })

pub returns : goal.returns
returns g c =
    let fs = c.args.self.now in
    let d = g.F.Flash.device fs.flash.now in
    record {
      step = subst (λ (r : Reply). SystemStep d fs.system Call.Log (Ok r) d fs.system) c.in-Log.is (log_step d fs.system (Ok _) fs.mounted (c.in_ok-next.ensures d));
      same_flash = refl;
    }
