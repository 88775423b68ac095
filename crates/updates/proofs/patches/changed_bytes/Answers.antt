use Rattle.std.proofs.Common.{sym, arith}
use Rattle.std.proofs.lemmas.List.{length-take-le}
use Rattle.tree_differences.proofs.Patching.{end_within}
use Rattle.updates.proofs.patches.changed_bytes.Goals as goal

pub slice_bounds-rest_from-end : goal.slice_bounds-rest_from-end
slice_bounds-rest_from-end c =
    let inside = end_within c.args.bytes.now c.args.others.now in
    let is = c.changed_end-end.ensures in
    sym (length-take-le c.changed_end-end.result c.args.others.now (omega (arith, inside, is)))
