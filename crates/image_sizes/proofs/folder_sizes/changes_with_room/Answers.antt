use Rattle.std.proofs.Common.{◌≡◌, ◌+◌, ◌-◌, ◌*◌, ◌/◌, ◌^◌, ◌<◌, ◌≤◌, ℕ, max, min, map, ap, sym, ◌∙◌, inl, inr, arith}
use Rattle.std.proofs.Math.Nat.{div-eq_of_lt, eq-or-lt_of_le}
use Rattle.host_interface.specs.Sources.{source_found}
use Rattle.image_sizes.specs.FolderSizes as spec
use Rattle.image_sizes.proofs.folder_sizes.changes_with_room.Goals as goal

-- what is divided by a number that is told up to a greatest one, which is more
capped_quotient : (x told n top : ℕ) → told ≡ min n top → x < top → 1 < top → x / max told 1 ≡ x / max 1 n
capped_quotient x told n top is below some =
    let most : told ≤ top = omega arith in
    elim (eq-or-lt_of_le most) as (λ _. x / max told 1 ≡ x / max 1 n) [
      | inl same ↦
          let left : x / max told 1 ≡ 0 = div-eq_of_lt (omega arith) in
          let right : x / max 1 n ≡ 0 = div-eq_of_lt (omega arith) in
          left ∙ sym right
      | inr less ↦
          let same : max told 1 ≡ max 1 n = omega arith in
          ap (λ (d : ℕ). x / d) same
    ]

-- the lesser of two numbers that are told
least_of : (told n other_told other : ℕ) → told ≡ n → other_told ≡ other → min told other_told ≡ min other n
least_of told n other_told other a b = omega arith

-- what is left beside the nodes of the tree and the anchors, which are told up to a greatest number
left_beside : (most most_told tree tree_told anchors added left top : ℕ) → most_told ≡ most → most_told ≤ 67108864 → tree_told ≡ min tree top → anchors ≡ 8
    → added ≡ min (tree_told + anchors) top → left ≡ most_told - added → 67108864 ≤ top → left ≡ most - (8 + tree)
left_beside most most_told tree tree_told anchors added left top a b c d e f g = omega arith

pub returns : goal.returns
returns c =
    let top : ℕ = 2 ^ 64 - 1 in
    let capacity = spec.capacity_of c.args.sizes in
    let all = map source_found c.args.sources.now in
    let tree : ℕ = spec.tree_nodes capacity all in
    let change : ℕ = spec.change_nodes capacity all in
    let room : ℕ = spec.most_blocks c.args.sizes - (8 + tree) in
    let same : c.capacity_of-capacity.result ≡ capacity = c.capacity_of-capacity.ensures in
    let tree_told : c.tree_nodes.result ≡ min tree top = c.tree_nodes.ensures ∙ ap (λ (n : ℕ). min (spec.tree_nodes n all) top) same in
    let change_told : c.change_nodes.result ≡ min change top = c.change_nodes.ensures ∙ ap (λ (n : ℕ). min (spec.change_nodes n all) top) same in
    let least : c.most_blocks.result ≤ 67108864 = c.most_blocks.ensures.least in
    let left : c.saturating_sub.result ≡ room =
    left_beside (spec.most_blocks c.args.sizes) c.most_blocks.result tree c.tree_nodes.result c.from.result c.saturating_add-tree.result c.saturating_sub.result top
    c.most_blocks.ensures.value least tree_told c.from.ensures c.saturating_add-tree.ensures c.saturating_sub.ensures (omega arith) in
    let few : room < top = omega (arith, left, least, c.saturating_sub.ensures) in
    let quotient : c.saturating_sub.result / c.max-change.result ≡ room / max 1 change =
    ap (λ (d : ℕ). c.saturating_sub.result / d) c.max-change.ensures
    ∙ ap (λ (x : ℕ). x / max c.change_nodes.result 1) left
    ∙ capped_quotient room c.change_nodes.result change top change_told few (omega arith) in
    c.min.ensures ∙ least_of (c.saturating_sub.result / c.max-change.result) (room / max 1 change) c.from-2.result c.args.history quotient c.from-2.ensures
