use Rattle.std.proofs.Common.{◌≡◌, true, map, subst}
use Rattle.std.specs.List.{list_all}
use Rattle.std.specs.List.Sorted.{IsStrictlySortedBy}
use Rattle.fs_types.specs.Names.{name_cmp, is_checkpoint_name}
use Rattle.mounting.proofs.LawfulContents.{lawful}
use Rattle.mounting.proofs.contents.record_of.Goals as goal

pub returns-clause-lawful : goal.returns-clause-lawful
returns-clause-lawful c =
    let names = subst (λ es. list_all (λ e. is_checkpoint_name e.0) es ≡ true) c.checkpoints.ensures c.in_ok-checkpoints.ensures.names in
    let sorted = subst (λ es. IsStrictlySortedBy name_cmp (map (λ e. e.0) es)) c.checkpoints.ensures c.in_ok-checkpoints.ensures.ordered in
    lawful c.args.geometry c.args.history.now c.args.last c.versions.ensures.kept c.requires sorted names
