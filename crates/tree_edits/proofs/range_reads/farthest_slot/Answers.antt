use Rattle.std.proofs.Common.{ℕ, ◌-◌, ap, ◌∙◌}
use Rattle.std.specs.Prelude.{min}
use Rattle.node_format.specs.declared.headers.TheConstants.{SLOTS}
use Rattle.tree_edits.proofs.Hops.{farthest}
use Rattle.tree_edits.proofs.range_reads.farthest_slot.Goals as goal

pub returns : goal.returns
returns c =
    farthest c.args.index c.args.before c.ilog2.result c.min.result c.requires c.ranges.index.fits c.ilog2.ensures.power_le c.ilog2.ensures.next_power_gt
    (c.min.ensures ∙ ap (λ (n : ℕ). min n (SLOTS - 1)) c.min-slot.ensures)
