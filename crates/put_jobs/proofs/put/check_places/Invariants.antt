use Rattle.std.proofs.Common.{map, take}
use Rattle.host_interface.specs.Sources.{source_found}
use Rattle.put_jobs.specs.Places.{AreOthers}
use Rattle.put_jobs.proofs.put.check_places.Given as goal

abbrev pub invariant-loop-source : goal.invariant-loop-source
invariant-loop-source g l = AreOthers l.image (map source_found (take l.source-index l.sources))
