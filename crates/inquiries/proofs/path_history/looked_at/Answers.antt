use Rattle.std.proofs.Common.{◌∙◌, Some, ap}
use Rattle.history_machine.specs.Machine.{Machine, view_tree}
use Rattle.tree_counts.specs.Sizes.{size_of}
use Rattle.inquiries.specs.Readings.{shown}
use Rattle.inquiries.proofs.PathLemmas.{looked_directory}
use Rattle.inquiries.proofs.path_history.looked_at.Goals as goal

pub returns-in_ok-size_of_tree-in-Some-Dir-clause-ok : goal.returns-in_ok-size_of_tree-in-Some-Dir-clause-ok
returns-in_ok-size_of_tree-in-Some-Dir-clause-ok g c =
    looked_directory (view_tree (shown c.args.fs.now) c.args.view.now) c.args.path.now c.in_ok-stat_if_there.field-0 c.in-Some-Dir.field-0-0 c.in_ok-size_of_tree-in-Some-Dir.field-0
    c.in_ok-stat_if_there.ensures.ok (c.in-Some-Dir.is ∙ ap Some c.in-Some-Dir.field-0-is)
    (c.in_ok-size_of_tree-in-Some-Dir.ensures.size ∙ ap (λ (m : Machine). size_of (view_tree m c.args.view.now)) c.stat_if_there.ensures.same.machine)
