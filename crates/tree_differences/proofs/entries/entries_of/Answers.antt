use Rattle.std.proofs.lemmas.Result.{IfOk-weaker}
use Rattle.tree_differences.proofs.Named.{entries_told}
use Rattle.tree_differences.proofs.entries.entries_of.Goals as goal

pub returns-in-Dir-clause-entries : goal.returns-in-Dir-clause-entries
returns-in-Dir-clause-entries g c =
    IfOk-weaker c.places_after.result _ _ (λ entries told. entries_told (g.N.Nodes.node c.args.nodes.now) c.args.place c.in-Dir.block entries c.in-Dir.is c.requires.begins told) c.places_after.ensures.places
