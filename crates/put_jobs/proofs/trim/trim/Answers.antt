use Rattle.flash_simulation.specs.Simulation.{device_of}
use Rattle.put_jobs.proofs.trim.trim.Goals as goal

pub returns-clause-trims : goal.returns-clause-trims
returns-clause-trims c = record {
  marked = c.serve-marked.result;
  cleaned = c.serve-cleaned.result;
  between = record { device = device_of c.serve-marked.new.flash; system = c.serve-marked.new.system };
  marks = c.serve-marked.ensures.serves;
  cleans = c.serve-cleaned.ensures.serves;
}
