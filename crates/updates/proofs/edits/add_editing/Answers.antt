use Rattle.std.proofs.Common.{arith}
use Rattle.tree_differences.proofs.Editing.{common_within}
use Rattle.updates.proofs.edits.add_editing.Goals as goal

pub slice_bounds-from_slice-start : goal.slice_bounds-from_slice-start
slice_bounds-from_slice-start c =
    let both = common_within c.args.bytes.now c.args.others.now in
    let least = both.1 in
    let is = c.common_length-shared.ensures in
    omega (arith, least, is)

pub slice_bounds-from_slice-count : goal.slice_bounds-from_slice-count
slice_bounds-from_slice-count c =
    let both = common_within c.args.bytes.now c.args.others.now in
    let least = both.1 in
    let is = c.common_length-shared.ensures in
    omega (arith, least, is)
