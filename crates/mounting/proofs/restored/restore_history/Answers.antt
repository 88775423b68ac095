use Rattle.std.proofs.Common.{◌∙◌, ap, map}
use Rattle.record_format.specs.declared.record.Checkpoint.{Checkpoint}
use Rattle.mounting.proofs.RestoredParts.{kept_parts}
use Rattle.mounting.proofs.restored.restore_history.Goals as goal

pub restore-requires : goal.restore-requires
restore-requires c =
    kept_parts c.args.saved.now c.in_ok-versions.versions.items c.in_ok-checkpoints.checkpoints.entries c.requires (c.in_ok-versions.ensures ∙ c.as_slice-2.ensures)
    ((c.in_ok-checkpoints.ensures).entries ∙ ap (map (λ (x : Checkpoint). (x.name, x.root))) c.as_slice.ensures)
