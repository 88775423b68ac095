use Rattle.std.proofs.Common.{[], ◌++◌, ◌∷◌, ◌*◌}
use Rattle.fs_types.specs.declared.call.Call.{Call}
use Rattle.tree_differences.specs.Updates.{for_writing, piece}
use Rattle.updates.proofs.PieceLemmas.{one_more_from}
use Rattle.updates.proofs.patches.add_rewriting.Goals as goal

pub loop-at-preserved : goal.loop-at-preserved
loop-at-preserved c =
    one_more_from (piece c.args.bytes.now) c.args.kept c.loop-at.at (c.args.calls.now.items ++ Call.Open c.args.path.now for_writing ∷ Call.Ftruncate 0 (c.args.kept * 30000) ∷ []) c.loop-at.calls.items c.add_piece.new.calls.items
    c.loop-at.auto.at c.loop-at.invariant c.in_ok-add_piece.ensures
