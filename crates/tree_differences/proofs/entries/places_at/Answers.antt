use Rattle.std.proofs.Common.{◌∙◌}
use Rattle.tree_differences.proofs.Named.{child_named}
use Rattle.tree_differences.proofs.entries.places_at.Goals as goal

pub returns-clause-places : goal.returns-clause-places
returns-clause-places g c =
    child_named (g.N.Nodes.node c.args.nodes.now) c.args.place c.as_slice.result.now c.in_ok-by_name.field-0.entries (c.as_slice.ensures ∙ c.in_ok-entries.ensures.entries) c.in_ok-by_name.ensures
