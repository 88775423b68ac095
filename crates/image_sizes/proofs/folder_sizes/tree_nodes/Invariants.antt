use Rattle.std.proofs.Common.{◌≡◌, ◌-◌, ◌^◌, take, map, min}
use Rattle.std.specs.List.{sum_by}
use Rattle.host_interface.specs.Sources.{source_found}
use Rattle.image_sizes.specs.FolderSizes as spec
use Rattle.image_sizes.proofs.folder_sizes.tree_nodes.Given as goal

abbrev pub invariant-loop-source : goal.invariant-loop-source
invariant-loop-source l = l.nodes ≡ min (sum_by (λ found. spec.nodes_of l.capacity found.kind) (map source_found (take l.source-index l.sources))) (2 ^ 64 - 1)
