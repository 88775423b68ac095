use Rattle.std.proofs.Common.{ℕ, eqb, sym, ap, ◌∙◌}
use Rattle.directory.proofs.Directories.{empty_first}
use Rattle.directory.proofs.listings.is_empty.Goals as goal

pub returns-clause-value : goal.returns-clause-value
returns-clause-value g c items e = ap (λ (n : ℕ). eqb n 0) (sym c.in_ok-count.ensures.count) ∙ empty_first (g.N.Nodes.node c.args.nodes.now) c.args.block items e
