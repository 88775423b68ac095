use Rattle.std.proofs.Common.{◌≡◌, take, map}
use Rattle.host_interface.specs.Sources.{source_found}
use Rattle.image_sizes.specs.FolderSizes as spec
use Rattle.image_sizes.proofs.folder_sizes.largest_body.Given as goal

abbrev pub invariant-loop-source : goal.invariant-loop-source
invariant-loop-source l = l.most ≡ spec.greatest (λ found. spec.body_of l.capacity found.kind) (map source_found (take l.source-index l.sources))
