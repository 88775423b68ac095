use Rattle.std.proofs.Common.{◌≡◌, ◌++◌, take, map}
use Rattle.fs_types.specs.declared.call.Version.{Version}
use Rattle.record_format.specs.declared.record.Checkpoint.{Checkpoint}
use Rattle.salvages.proofs.kept_records.list_roots.Given as goal

abbrev pub invariant-loop-checkpoint : goal.invariant-loop-checkpoint
invariant-loop-checkpoint l = l.roots.items ≡ map (λ (v : Version _). v.root) l.saved.versions ++ map (λ (c : Checkpoint). c.root) (take l.checkpoint-index l.checkpoint-items)
