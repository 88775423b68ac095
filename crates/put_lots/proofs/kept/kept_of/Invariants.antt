use Rattle.std.proofs.Common.{◌≡◌, map, take}
use Rattle.std.specs.List.{flat_map}
use Rattle.host_interface.specs.Sources.{source_found}
use Rattle.put_lots.specs.Removals.{kept_found}
use Rattle.put_lots.proofs.kept.kept_of.Given as goal

abbrev pub invariant-loop-source : goal.invariant-loop-source
invariant-loop-source l = l.kept.items ≡ flat_map kept_found (map source_found (take l.source-index l.sources))
