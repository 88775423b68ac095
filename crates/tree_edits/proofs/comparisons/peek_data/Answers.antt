use Rattle.std.proofs.Common.{length, arith}
use Rattle.tree_edits.proofs.PartReads.{HoldsData, holds_data, data_copied, data_lacks}
use Rattle.tree_edits.proofs.NodeCalls.{part_within}
use Rattle.tree_edits.proofs.comparisons.peek_data.Goals as goal
use Rattle.tree_edits.proofs.comparisons.peek_data.Goals.{Start}
use Rattle.tree_edits.proofs.comparisons.peek_data.Given.{Over}

has : (g : Over) (c : Start g) → HoldsData (g.N.Nodes.limit c.args.nodes.now) (g.N.Nodes.node c.args.nodes.now c.args.block) c.args.from (length c.args.out.now)
has g c =
    let old = c.args.nodes.now in
    holds_data (g.N.Nodes.limit old) c.requires.node.0 c.args.from (length c.args.out.now) (g.N.Nodes.node old c.args.block) (λ bytes is. g.met.N.Nodes.whole old c.args.block bytes c.requires.sound is) c.requires.node.1 c.requires.within

pub overflow_add-from : goal.overflow_add-from
overflow_add-from g c = let part = has g (goal.at.overflow_add-from g c).Start in omega (arith, part.fits, part.most, c.block_bytes.ensures.value, c.block_bytes.ensures.most)

pub peek_at-requires-clause-within : goal.peek_at-requires-clause-within
peek_at-requires-clause-within g c = let part = has g (goal.at.peek_at-requires-clause-within g c).Start in omega (arith, part.fits, part.most)

pub returns-clause-copied : goal.returns-clause-copied
returns-clause-copied g c =
    data_copied (g.N.Nodes.limit c.args.nodes.now) (g.N.Nodes.node c.args.nodes.now c.args.block) c.args.from (length c.args.out.now) (has g (goal.at.returns-clause-copied g c).Start) c.peek_at.new.out c.peek_at.result c.peek_at.ensures.copied

pub returns-clause-calls : goal.returns-clause-calls
returns-clause-calls g c =
    let part = has g (goal.at.returns-clause-calls g c).Start in
    part_within c.args.nodes.now c.peek_at.new.self c.peek_at.result
    (λ damaged. data_lacks (g.N.Nodes.limit c.args.nodes.now) (g.N.Nodes.node c.args.nodes.now c.args.block) c.args.from (length c.args.out.now) part (c.peek_at.ensures.damaged damaged))
    c.peek_at.ensures.looks c.peek_at.ensures.reads c.peek_at.ensures.why c.peek_at.ensures.faults
