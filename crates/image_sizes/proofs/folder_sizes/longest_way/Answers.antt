use Rattle.std.proofs.Common.{◌==◌, ℕ, List, max, map, take, count_by, sym, ap, ◌∙◌}
use Rattle.host_interface.specs.Sources.{source_found}
use Rattle.image_sizes.specs.FolderSizes as spec
use Rattle.image_sizes.proofs.FolderSteps.{greatest_more}
use Rattle.image_sizes.proofs.folder_sizes.longest_way.Goals as goal

pub loop-source-preserved : goal.loop-source-preserved
loop-source-preserved c =
    c.max-most.ensures
    ∙ ap (λ (n : ℕ). max n c.slashes.result) c.loop-source.invariant
    ∙ ap (λ (n : ℕ). max (spec.greatest spec.directories_of (map source_found (take c.loop-source.source-index c.args.sources.now))) n) (c.slashes.ensures ∙ ap (λ (way : List ℕ). count_by (λ byte. byte == 47) way) c.as_bytes.ensures.value)
    ∙ sym (greatest_more spec.directories_of c.args.sources.now c.loop-source.source-index c.source-item.result c.loop-source-test.true c.source-item.is)
