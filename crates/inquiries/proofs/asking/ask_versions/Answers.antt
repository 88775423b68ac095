use Rattle.std.proofs.Common.{inr, refl, arith}
use Rattle.inquiries.proofs.asking.ask_versions.Goals as goal

pub returns-in-Ok-tell_versions-clause-ok : goal.returns-in-Ok-tell_versions-clause-ok
returns-in-Ok-tell_versions-clause-ok g c = record {
  device = g.F.Flash.device c.mount.new.flash;
  system = c.in-Ok.system;
  mounted = c.in-Ok.ensures.ok;
  accepted = refl;
  few = inr (omega arith, tt);
  told = c.in-Ok-tell_versions.ensures.ok;
}

pub returns-clause-err : goal.returns-clause-err
returns-clause-err g c = record {
  device = g.F.Flash.device c.mount.new.flash;
  system = c.in-Ok.system;
  mounted = c.in-Ok.ensures.ok;
  reads = c.in-Ok.ensures.only_reads;
  why = inr c.in-Err-tell_versions.ensures.err;
}
