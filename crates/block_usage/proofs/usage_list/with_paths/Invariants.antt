use Rattle.std.proofs.Common.{◌≡◌, map, take}
use Rattle.block_usage.specs.Usages.{with_path}
use Rattle.block_usage.proofs.usage_list.with_paths.Given as goal

-- the first entries were taken, each with its path
abbrev pub invariant-loop-name : goal.invariant-loop-name
invariant-loop-name l = l.places.items ≡ map (with_path l.path) (take l.name-index l.entries)
