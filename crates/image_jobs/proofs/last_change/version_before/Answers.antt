use Rattle.std.proofs.Common.{inl, inr}
use Rattle.std.proofs.lemmas.Result.{err_from_is_err_and}
use Rattle.image_jobs.proofs.last_change.version_before.Goals as goal

pub returns-in_err-flash-clause-err : goal.returns-in_err-flash-clause-err
returns-in_err-flash-clause-err g c =
    let p = err_from_is_err_and c.from_residual.result c.from_residual.ensures.1 in
    rw (p.1, p.2) (inl c.in_err-flash.ensures.err)

pub returns-in-Err-clause-err : goal.returns-in-Err-clause-err
returns-in-Err-clause-err g c =
    inr (inl (c.in_ok-flash.flash, c.mount_as_planned.new.flash, c.in-Err.fault, c.in_ok-flash.ensures.ok, (record { cause = c.in-Err.ensures.why; reads = c.mount_as_planned.ensures.only_reads }, c.mount_as_planned.ensures.plan), c.of_system.ensures))

pub returns-in-Ok-serial_before-clause-ok : goal.returns-in-Ok-serial_before-clause-ok
returns-in-Ok-serial_before-clause-ok g c = record {
  start = c.in_ok-flash.flash;
  end = c.mount_as_planned.new.flash;
  system = c.in-Ok.system;
  spelled = c.in_ok-flash.ensures.ok;
  mounted = c.in-Ok.ensures.ok;
  accepted = c.in-Ok-serial_before.ensures.accepted;
  is = c.in-Ok-serial_before.ensures.ok;
}

pub returns-clause-err : goal.returns-clause-err
returns-clause-err g c = inr (inr (record {
  start = c.in_ok-flash.flash;
  end = c.mount_as_planned.new.flash;
  system = c.in-Ok.system;
  fault = c.in-Err-serial_before.fault;
  spelled = c.in_ok-flash.ensures.ok;
  mounted = c.in-Ok.ensures.ok;
  refused = c.in-Err-serial_before.ensures.err;
  told = c.of_refusal.ensures;
}))
