use Rattle.std.proofs.Common.{inl, inr}
use Rattle.image_words.proofs.image_usages.usages_of_image.Goals as goal

pub returns-in-Err-clause-err : goal.returns-in-Err-clause-err
returns-in-Err-clause-err g c = inl c.in-Err.ensures.err

pub returns-in-Ok-report_usages-clause-ok : goal.returns-in-Ok-report_usages-clause-ok
returns-in-Ok-report_usages-clause-ok g c = record {
  flash = c.in-Ok.flash;
  there = c.in-Ok.ensures.ok;
  report = c.in-Ok-report_usages.ensures.ok;
}

pub returns-clause-err : goal.returns-clause-err
returns-clause-err g c = inr (record {
  flash = c.in-Ok.flash;
  there = c.in-Ok.ensures.ok;
  left = c.report_usages.new.flash;
  fault = c.in-Err-report_usages.fault;
  why = c.in-Err-report_usages.ensures.err;
  told = c.of_report.ensures;
})
