use Rattle.std.proofs.Common.{◌≡◌, map}
use Rattle.host_interface.specs.Sources.{source_found}
use Rattle.put_jobs.specs.Puts.{left_in}
use Rattle.put_jobs.proofs.batch.left_in.Given as goal

abbrev pub invariant-loop-source : goal.invariant-loop-source
invariant-loop-source g l = map source_found l.sources.items ≡ left_in l.skip_links (map source_found l.yielded)
