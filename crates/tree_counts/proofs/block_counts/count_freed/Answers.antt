use Rattle.std.proofs.Common.{ℕ, subst, sym}
use Rattle.tree_counts.specs.Counts.{CountsFreed}
use Rattle.tree_counts.proofs.Counted.{counts_freed}
use Rattle.tree_counts.proofs.block_counts.count_freed.Goals as goal

pub returns : goal.returns
returns c f roots are few =
    subst (λ (n : ℕ). CountsFreed f c.args.blocks c.args.bad.now roots c.args.kept n) (sym c.count_later.ensures)
    (counts_freed f roots c.args.firsts.now c.args.bad.now c.args.blocks c.args.kept are c.requires few)
