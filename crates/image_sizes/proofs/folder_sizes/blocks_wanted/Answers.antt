use Rattle.std.proofs.Common.{◌≡◌, ◌+◌, ◌-◌, ◌*◌, ◌^◌, ◌≤◌, ℕ, max, min, map, ap, ◌∙◌, arith}
use Rattle.host_interface.specs.Sources.{source_found}
use Rattle.image_sizes.specs.FolderSizes as spec
use Rattle.image_sizes.proofs.FolderSteps.{capped_times}
use Rattle.image_sizes.proofs.folder_sizes.blocks_wanted.Goals as goal

-- twice what is told up to a greatest number, and more
capped : (tree_told tree changes_told changes data_told told top : ℕ) → tree_told ≡ min tree top → changes_told ≡ min changes top
    → data_told ≡ min (min (tree_told + changes_told) top * 2) top → told ≡ min (data_told + 8) top → 16 ≤ top → max told 16 ≡ min (max 16 (8 + 2 * (tree + changes))) top
capped tree_told tree changes_told changes data_told told top a b c d e = omega arith

pub returns : goal.returns
returns c =
    let top : ℕ = 2 ^ 64 - 1 in
    let capacity = spec.capacity_of c.args.sizes in
    let all = map source_found c.args.sources.now in
    let same : c.capacity_of-capacity.result ≡ capacity = c.capacity_of-capacity.ensures in
    let tree : c.tree_nodes-tree.result ≡ min (spec.tree_nodes capacity all) top = c.tree_nodes-tree.ensures ∙ ap (λ (n : ℕ). min (spec.tree_nodes n all) top) same in
    let change : c.change_nodes-change.result ≡ min (spec.change_nodes capacity all) top = c.change_nodes-change.ensures ∙ ap (λ (n : ℕ). min (spec.change_nodes n all) top) same in
    let changes : c.saturating_mul-changes.result ≡ min (spec.change_nodes capacity all * c.args.history) top =
    c.saturating_mul-changes.ensures
    ∙ ap (λ (n : ℕ). min (c.change_nodes-change.result * n) top) c.from.ensures
    ∙ capped_times c.change_nodes-change.result (spec.change_nodes capacity all) top c.args.history change in
    c.max.ensures
    ∙ capped c.tree_nodes-tree.result (spec.tree_nodes capacity all) c.saturating_mul-changes.result (spec.change_nodes capacity all * c.args.history) c.saturating_mul-data.result c.saturating_add-2.result top
    tree changes (c.saturating_mul-data.ensures ∙ ap (λ (n : ℕ). min (n * 2) top) c.saturating_add.ensures)
    (c.saturating_add-2.ensures ∙ ap (λ (n : ℕ). min (c.saturating_mul-data.result + n) top) c.from-2.ensures) (omega arith)
