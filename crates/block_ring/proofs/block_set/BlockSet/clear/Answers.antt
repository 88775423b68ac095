use Rattle.std.proofs.Common.{◌∙◌, ap, length, arith}
use Rattle.std.proofs.lemmas.List.{with_items_is}
use Rattle.block_ring.proofs.SetBits.{seen-cleared}
use Rattle.block_ring.proofs.block_set.BlockSet.clear.Goals as goal

pub returns : goal.returns
returns c =
    let size = ap length c.deref_mut.ensures.value in
    seen-cleared _ _ _ _ _ c.self.view_is
    (with_items_is c.self.inside.words c.clear_words.new.words (omega (arith, c.clear_words.auto.words, size, c.self.inside.words.ok.0))
    ∙ c.clear_words.ensures)
