use Rattle.std.proofs.Common.{ℕ, subst, sym}
use Rattle.tree_counts.specs.Counts.{CountsAlone}
use Rattle.tree_counts.proofs.Counted.{counts_alone}
use Rattle.tree_counts.proofs.block_counts.count_alone.Goals as goal

pub returns : goal.returns
returns c f roots many are lasting =
    subst (λ (n : ℕ). CountsAlone f c.args.blocks c.args.bad.now roots c.args.place n) (sym c.count_only.ensures)
    (counts_alone f roots c.args.firsts.now c.args.lasts.now c.args.bad.now c.args.blocks c.args.place c.args.roots many c.requires.place are lasting c.requires.firsts)
