use Rattle.std.proofs.Common.{◌≡◌, ◌++◌, take, codes}
use Rattle.std.specs.List.{flat_map}
use Rattle.fs_types.specs.Names.{Name}
use Rattle.image_words.proofs.host_folders.way_bytes.Given as goal

abbrev pub invariant-loop-name : goal.invariant-loop-name
invariant-loop-name l = l.bytes.items ≡ flat_map (λ (name : Name). codes "/" ++ name) (take l.name-index l.name-items)
