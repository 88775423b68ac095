use Rattle.std.proofs.Common.{ap, length, arith}
use Rattle.std.proofs.lemmas.List.{with_items_is}
use Rattle.block_ring.proofs.SetBits.{seen-joined, AreJoined-same}
use Rattle.block_ring.proofs.block_set.BlockSet.join.Goals as goal

pub returns : goal.returns
returns c =
    let size = ap length c.deref_mut.ensures.value in
    let words = with_items_is c.self.inside.words c.join_words.new.words (omega (arith, c.join_words.auto.words, size, c.self.inside.words.ok.0)) in
    seen-joined _ _ _ _ _ _ _ _ _ c.self.view_is c.other.view_is c.requires c.self.invariant c.self.inside.words.ok.0
    c.other.invariant c.other.inside.words.ok.0
    (AreJoined-same _ _ _ _ _ _ c.deref_mut.ensures.value c.deref.ensures.value words c.join_words.ensures)
