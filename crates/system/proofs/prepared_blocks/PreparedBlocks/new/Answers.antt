use Rattle.std.proofs.Common.{ap, ◌∙◌}
use Rattle.block_ring.specs.Bits.{members_of}
use Rattle.block_ring.proofs.SetBits.{members_of-replicate}
use Rattle.system.proofs.prepared_blocks.PreparedBlocks.new.Goals as goal

pub returns-clause-ok : goal.returns-clause-ok
returns-clause-ok c =
    let zeros = c.in_ok-words.ensures.items_if_clones_equal (λ y same. same) in
    ap (λ m. record { blocks = c.args.blocks; members = m })
    (ap (members_of c.args.blocks) zeros ∙ members_of-replicate _ _)
