use Rattle.std.proofs.Common.{◌≡◌, ◌++◌, map}
use Rattle.std.specs.List.{list_all}
use Rattle.fs_types.specs.Names.{is_checkpoint_name}
use Rattle.mounting.specs.Contents.{checkpoint_of}
use Rattle.mounting.proofs.contents.list_checkpoints.Given as goal

abbrev pub invariant-loop-name : goal.invariant-loop-name
invariant-loop-name l =
    (l.made.items ++ map checkpoint_of l.name-iterator ≡ map checkpoint_of l.checkpoints.entries)
    × (list_all (λ e. is_checkpoint_name e.0) l.checkpoints.entries ≡ list_all (λ e. is_checkpoint_name e.0) l.name-iterator)
