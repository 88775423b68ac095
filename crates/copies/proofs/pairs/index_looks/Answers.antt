use Rattle.std.specs.BTreeMap.{get}
use Rattle.std.specs.Ordering.{nat_cmp}
use Rattle.copies.proofs.Pairing.{indexed_more}
use Rattle.copies.proofs.pairs.index_looks.Goals as goal

pub loop-look-preserved : goal.loop-look-preserved
loop-look-preserved c =
    indexed_more c.args.looks.now c.loop-look.look-index c.look-item.result c.in_ok-clone.field-0 (get nat_cmp c.loop-look.last) (get nat_cmp c.insert.new.self) c.loop-look-test.true c.look-item.is c.in_ok-clone.ensures c.loop-look.invariant
    c.in_ok-insert.ensures.updates.0
