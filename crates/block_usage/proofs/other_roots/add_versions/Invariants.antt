use Rattle.std.proofs.Common.{◌≡◌, ◌++◌, take}
use Rattle.std.specs.List.{flat_map, enumerate_from}
use Rattle.block_usage.specs.OtherRoots.{other_version}
use Rattle.block_usage.proofs.other_roots.add_versions.Given as goal

abbrev pub invariant-loop-place : goal.invariant-loop-place
invariant-loop-place l = l.roots.items ≡ l.initial.roots.items ++ flat_map (other_version l.history l.view) (take l.place (enumerate_from 0 l.history.versions))
