use Rattle.std.proofs.Common.{ap, ◌∙◌, sym}
use Rattle.std.proofs.lemmas.Bool.{le-ltb}
use Rattle.std.specs.FinSet as set
use Rattle.block_ring.proofs.SetBits.{is_member, no_member}
use Rattle.system.proofs.prepared_blocks.PreparedBlocks.contains.Goals as goal

pub returns-then-block-self : goal.returns-then-block-self
returns-then-block-self c =
    is_member _ _ _ _ _ c.self.invariant c.self.inside.words.ok.0 c.if-block-self.true c.index.ensures
    ∙ ap (λ s. set.contains s.members c.args.block) c.self.view_is

pub returns-else-block-self : goal.returns-else-block-self
returns-else-block-self c =
    le-ltb _ _ c.if-block-self.false ∙ sym (no_member _ _ _ c.if-block-self.false)
    ∙ ap (λ s. set.contains s.members c.args.block) c.self.view_is
