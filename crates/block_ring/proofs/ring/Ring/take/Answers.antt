use Rattle.std.proofs.Common.{sym, ◌∙◌}
use Rattle.block_ring.proofs.ring.Ring.take.Goals as goal

pub take_at-requires : goal.take_at-requires
take_at-requires c = (c.args.bad.now, sym c.next_free.ensures.next ∙ c.in_ok-next.was)
