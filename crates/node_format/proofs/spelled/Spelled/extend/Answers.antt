use Rattle.std.proofs.Common.{subst}
use Rattle.node_format.specs.Directories.{AreSpelled}
use Rattle.node_format.proofs.Parts.{spelled_after}
use Rattle.node_format.proofs.spelled.Spelled.extend.Goals as goal

pub invariant_of-self-2 : goal.invariant_of-self-2
invariant_of-self-2 c =
    let f = subst (AreSpelled c.self.inside.count c.self.inside.bytes.items) c.self.view_is c.self.invariant in
    let b = subst (AreSpelled c.list.inside.count c.list.inside.bytes.now) c.list.view_is c.list.invariant in
    (spelled_after _ _ _ _ _ c.args.self.now c.args.list.now f b c.requires.few c.requires.ordered c.in_ok-extend_from_slice.ensures.items).spelled

pub returns-clause-added : goal.returns-clause-added
returns-clause-added c =
    let f = subst (AreSpelled c.self.inside.count c.self.inside.bytes.items) c.self.view_is c.self.invariant in
    let b = subst (AreSpelled c.list.inside.count c.list.inside.bytes.now) c.list.view_is c.list.invariant in
    (spelled_after _ _ _ _ _ c.args.self.now c.args.list.now f b c.requires.few c.requires.ordered c.in_ok-extend_from_slice.ensures.items).read
