use Rattle.std.proofs.Common.{◌∙◌, ◌++◌, ℕ, List, sym, ap, append-nil}
use Rattle.history_machine.specs.Machine.{view_tree}
use Rattle.inquiries.specs.Readings.{shown}
use Rattle.inquiries.proofs.DifferenceLemmas.{line_directory}
use Rattle.inquiries.proofs.differences.add_line.Goals as goal

pub returns-in-Directory-clause-ok : goal.returns-in-Directory-clause-ok
returns-in-Directory-clause-ok g c =
    let none = line_directory c.args.side c.args.item.now (view_tree (shown c.args.fs.now) c.args.view.now) (view_tree (shown c.args.fs.now) c.args.other.now) c.in_ok-find_counterpart.field-0
    c.requires.there c.in_ok-find_counterpart.ensures.ok c.in-Directory.is in
    sym (ap (λ (line : List ℕ). c.args.out.now.items ++ line) none ∙ append-nil c.args.out.now.items)
