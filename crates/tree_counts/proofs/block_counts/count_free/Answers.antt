use Rattle.std.proofs.Common.{ℕ, take, subst, sym}
use Rattle.tree_counts.specs.Counts.{CountsFree}
use Rattle.tree_counts.proofs.Counted.{counts_free}
use Rattle.tree_counts.proofs.block_counts.count_free.Goals as goal

pub returns : goal.returns
returns c f roots are few =
    subst (λ (n : ℕ). CountsFree f c.args.blocks c.args.bad.now (take c.args.kept roots) n) (sym c.count_unreached.ensures)
    (counts_free f roots c.args.firsts.now c.args.bad.now c.args.blocks c.args.kept are c.requires few)
