use Rattle.std.proofs.Common.{ℕ, max, map, take, sym, ap, ◌∙◌}
use Rattle.host_interface.specs.Sources.{Found, source_found}
use Rattle.image_sizes.specs.FolderSizes as spec
use Rattle.image_sizes.proofs.FolderSteps.{greatest_more}
use Rattle.image_sizes.proofs.folder_sizes.largest_body.Goals as goal

pub loop-source-preserved : goal.loop-source-preserved
loop-source-preserved c =
    let body : Found → ℕ = λ found. spec.body_of c.args.capacity found.kind in
    c.max-most.ensures
    ∙ ap (λ (n : ℕ). max n c.body_of.result) c.loop-source.invariant
    ∙ ap (λ (n : ℕ). max (spec.greatest body (map source_found (take c.loop-source.source-index c.args.sources.now))) n) c.body_of.ensures
    ∙ sym (greatest_more body c.args.sources.now c.loop-source.source-index c.source-item.result c.loop-source-test.true c.source-item.is)
