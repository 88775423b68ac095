use Rattle.std.proofs.Common.{ℕ, sym, subst}
use Rattle.nodes.specs.Bodies.{IsBody}
use Rattle.tree_edits.proofs.comparisons.has_bytes.Goals as goal

pub has_all-requires-clause-holds : goal.has_all-requires-clause-holds
has_all-requires-clause-holds g c =
    let capacity = c.capacity_in-capacity.ensures in
    record {
      capacity_is = capacity.capacity;
      least = capacity.some;
      whole = subst (λ (r : ℕ). IsBody r (g.N.Nodes.node c.args.nodes.now) c.args.body.head c.args.body.length) (sym capacity.capacity) c.requires.body;
    }
